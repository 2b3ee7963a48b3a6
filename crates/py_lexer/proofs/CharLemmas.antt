-- Characters of names in ASCII.
use Rattle.std.proofs.Common.{◌≡◌, ℕ, ◌<◌, ◌||◌, ◌==◌, ap}
use Rattle.std.specs.Char.{is_ascii_alphabetic, is_ascii_alphanumeric}
use Rattle.unicode_ident.proofs.IdentLemmas.{is_xid_start-ascii, is_xid_continue-ascii}
use Rattle.rv_names.specs.Identifier.{is_identifier_start, is_identifier_continue}

pub start_ascii : (c : ℕ) → c < 128 → is_identifier_start c ≡ (is_ascii_alphabetic c || (c == 95))
start_ascii c low = ap (λ b. b || (c == 95)) (is_xid_start-ascii c low)

pub continue_ascii : (c : ℕ) → c < 128 → is_identifier_continue c ≡ (is_ascii_alphanumeric c || (c == 95))
continue_ascii c low = is_xid_continue-ascii c low
