-- The two files that each project has: a configuration of Pysa and a file of its models.
use Rattle.std.specs.Prelude.{ℕ, List, codes}

-- `taint.config`: one kind of source, one kind of sink and the rule between them
unfoldable pub config_text : List ℕ
config_text =
    codes "{\"sources\":[{\"name\":\"UserControlled\"}],\"sinks\":[{\"name\":\"RemoteCodeExecution\"}],\"features\":[],\"rules\":[{\"name\":\"Possible RCE\",\"code\":5001,\"sources\":[\"UserControlled\"],\"sinks\":[\"RemoteCodeExecution\"],\"message_format\":\"Data from {$sources} may reach {$sinks}\"}]}"

-- `general.pysa`: `input` is a source, and the command of `os.system` a sink
unfoldable pub models_text : List ℕ
models_text =
    codes "def input() -> TaintSource[UserControlled]: ...\ndef os.system(command: TaintSink[RemoteCodeExecution]): ...\n"
