-- What a text is, and what is wrong with it, by what stands at its path: one of the two, and one of each.
use Rattle.std.proofs.Common.{rules, ◌≡◌, chars, Some, None, sym, ap, ◌∙◌}
use Rattle.std.specs.Arc.{arc_value}
use Rattle.rv_names.specs.Keys.{Bytes}
use Rattle.py_ast.specs.declared.statement.Module.{Module}
use Rattle.py_ast.specs.Parsed.{Kept}
use Rattle.py_parser.specs.Refusals.{IsFaulty}
use Rattle.py_judgement.proofs.OneReading.{has_one_reading}
use Rattle.py_parser.specs.declared.parsing.FileError.{FileError}
use Rattle.pysa_syntax.proofs.OneAnswer.{one_text}
use Rattle.taint_config.specs.Config.{ConfigParts}
use Rattle.taint_config.specs.Faults.{file_faults, first_fault}
use Rattle.taint_config.specs.declared.faults.ConfigError.{ConfigError}
use Rattle.project.specs.declared.item.Item.{Item}
use Rattle.project.specs.declared.item.Item.TheVariants as items
use Rattle.project.specs.declared.path.PathKind.{PathKind}
use Rattle.project.specs.declared.path.PathKind.TheVariants as kinds
use Rattle.front.specs.Reading.{IsParsed, IsConfigured, ReadsAs, FailsAs, SameItem}
use Rattle.front.specs.declared.faults.ReadFault.{ReadFault}
use Rattle.front.specs.declared.faults.ReadFault.TheVariants as faults

-- ---- Python files

one-kept : (a b : Kept) → a.text ≡ b.text → a.tree ≡ b.tree → a ≡ b
one-kept a b e h =
    let texts : a ≡ record { text = b.text; tree = a.tree } = ap (λ (t : Bytes). record { text = t; tree = a.tree }) e in
    let trees : record { text = b.text; tree = a.tree } ≡ b = ap (λ (m : Module). record { text = b.text; tree = m }) h in
    texts ∙ trees

one-python : (text : Bytes) (a b : Kept) → IsParsed text a → IsParsed text b → a ≡ b
one-python text a b h k = one-kept a b (h.text_is ∙ sym k.text_is) ((has_one_reading text).one_module a.tree b.tree h.spelled k.spelled)

no-python-fault : (text : Bytes) (a : Kept) (fault : FileError) → IsParsed text a → IsFaulty text fault → ⊥
no-python-fault text a fault h k = (has_one_reading text).not_both a.tree fault h.spelled h.scopes k

-- ---- configurations

one-configuration : (text : Bytes) (a b : ConfigParts) → IsConfigured text a → IsConfigured text b → a ≡ b
one-configuration text a b h k = h.config_is ∙ sym k.config_is

no-configuration-fault : (text : Bytes) (a : ConfigParts) (fault : ConfigError) → IsConfigured text a → first_fault (file_faults text) ≡ Some fault → ⊥
no-configuration-fault text a fault h k = let none : first_fault (file_faults text) ≡ None = ap first_fault h.faultless in cc (none, k)

one-configuration-fault : (text : Bytes) (e f : ConfigError) → first_fault (file_faults text) ≡ Some e → first_fault (file_faults text) ≡ Some f → e ≡ f
one-configuration-fault text e f h k = cc (h, k)

-- ---- by what stands at the path

pub not_both : (kind : PathKind) (text : Bytes) (item : Item) (fault : ReadFault) → ReadsAs kind text item → FailsAs kind text fault → ⊥
not_both (kinds.Module name) text (items.Module parsed) (faults.Python fault) a r = no-python-fault text (arc_value parsed) fault a r
not_both kinds.Models text (items.Models decls) (faults.Models fault) a r = (one_text (chars text)).not_both (arc_value decls) fault a r
not_both kinds.Config text (items.Config config) (faults.Config fault) a r = no-configuration-fault text (arc_value config) fault a r
not_both _ text _ _ a r = search rules

pub one_fault : (kind : PathKind) (text : Bytes) (e f : ReadFault) → FailsAs kind text e → FailsAs kind text f → e ≡ f
one_fault (kinds.Module name) text (faults.Python e) (faults.Python f) a b = ap faults.Python ((has_one_reading text).one_fault e f a b)
one_fault kinds.Models text (faults.Models e) (faults.Models f) a b = ap faults.Models ((one_text (chars text)).one_fault e f a b)
one_fault kinds.Config text (faults.Config e) (faults.Config f) a b = ap faults.Config (one-configuration-fault text e f a b)
one_fault _ text _ _ a b = absurd (search rules)

pub one_item : (kind : PathKind) (text : Bytes) (a b : Item) → ReadsAs kind text a → ReadsAs kind text b → SameItem a b
one_item (kinds.Module name) text (items.Module a) (items.Module b) h k = one-python text (arc_value a) (arc_value b) h k
one_item kinds.Models text (items.Models a) (items.Models b) h k = (one_text (chars text)).one_list (arc_value a) (arc_value b) h k
one_item kinds.Config text (items.Config a) (items.Config b) h k = one-configuration text (arc_value a) (arc_value b) h k
one_item _ text _ _ h k = absurd (search rules)
