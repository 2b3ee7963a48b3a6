-- The limits of a project.
use Rattle.std.specs.Prelude.{ℕ}

-- the bytes of a file: 1 MiB
abbrev pub file_limit : ℕ
file_limit = 1048576

-- the live files
abbrev pub files_limit : ℕ
files_limit = 4096

-- the bytes of all live texts: 32 MiB
abbrev pub text_limit : ℕ
text_limit = 33554432

-- the callables of all modules
abbrev pub callables_limit : ℕ
callables_limit = 65535

-- the edits that a journal keeps
abbrev pub edits_limit : ℕ
edits_limit = 65536

-- the bytes of all texts that a journal keeps: 64 MiB
abbrev pub kept_limit : ℕ
kept_limit = 67108864
