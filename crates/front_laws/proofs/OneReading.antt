-- A file is one item, or else it has one fault.
use Rattle.std.proofs.Common.{rules, ◌≡◌, Some, None, refl, sym, subst, ◌∙◌, arith}
use Rattle.rv_names.specs.Keys.{Bytes}
use Rattle.project.specs.Paths.{kind_of_path}
use Rattle.project.specs.declared.item.Item.{Item}
use Rattle.project.specs.declared.path.PathKind.{PathKind}
use Rattle.front.specs.Reading.{Accepted, FailsAs, IsText, MayStand, Misread, ReadsAs, Refused, SameItem, Unread}
use Rattle.front.specs.declared.faults.ReadFault.{ReadFault}
use Rattle.front.specs.declared.faults.ReadFault.TheVariants as faults
use Rattle.front_laws.proofs.Texts as texts

one-kind : (path : Bytes) (a b : PathKind) → kind_of_path path ≡ Some a → kind_of_path path ≡ Some b → a ≡ b
one-kind path a b h k = cc (h, k)

nowhere : (path : Bytes) (kind : PathKind) → kind_of_path path ≡ None → kind_of_path path ≡ Some kind → ⊥
nowhere path kind h k = cc (h, k)

-- the cause of a refusal: the path, the bytes whatever stands there, or the text
data Cause (path bytes : Bytes) (fault : ReadFault) : Type 0 where
  misplaced : kind_of_path path ≡ None → fault ≡ faults.BadPath → Cause path bytes fault
  unread : MayStand path → Unread bytes fault → Cause path bytes fault
  misread : Misread path bytes fault → Cause path bytes fault

cause : (path bytes : Bytes) (fault : ReadFault) → Refused path bytes fault → Cause path bytes fault
cause path bytes faults.BadPath r = misplaced r refl
cause path bytes faults.TooLarge r = unread r.0 r.1
cause path bytes faults.NotUtf8 r = unread r.0 r.1
cause path bytes (faults.Python fault) r = misread r
cause path bytes (faults.Models fault) r = misread r
cause path bytes (faults.Config fault) r = misread r
cause path bytes faults.Memory r = absurd r

-- ---- texts that are read or not

is-read : (bytes : Bytes) (fault : ReadFault) → IsText bytes → Unread bytes fault → ⊥
is-read bytes faults.TooLarge t u = omega (arith, t.small, u)
is-read bytes faults.NotUtf8 t u = u.1 t.text
is-read bytes _ t u = u

one-unread : (bytes : Bytes) (e f : ReadFault) → Unread bytes e → Unread bytes f → e ≡ f
one-unread bytes faults.TooLarge faults.TooLarge a b = refl
one-unread bytes faults.NotUtf8 faults.NotUtf8 a b = refl
one-unread bytes faults.TooLarge faults.NotUtf8 a b = absurd (omega (arith, a, b.0))
one-unread bytes faults.NotUtf8 faults.TooLarge a b = absurd (omega (arith, a.0, b))
one-unread bytes _ _ a b = absurd (search rules)

fails-as : (path bytes : Bytes) (fault : ReadFault) (kind : PathKind) → kind_of_path path ≡ Some kind → (m : Misread path bytes fault) → FailsAs kind bytes fault
fails-as path bytes fault kind h m = subst (λ (k : PathKind). FailsAs k bytes fault) (one-kind path m.kind kind m.stands h) m.fails

one-misread : (path bytes : Bytes) (e f : ReadFault) → Misread path bytes e → Misread path bytes f → e ≡ f
one-misread path bytes e f a b = texts.one_fault b.kind bytes e f (fails-as path bytes e b.kind b.stands a) b.fails

one-cause : (path bytes : Bytes) (e f : ReadFault) → Cause path bytes e → Cause path bytes f → e ≡ f
one-cause path bytes e f (misplaced a h) (misplaced b k) = h ∙ sym k
one-cause path bytes e f (misplaced a h) (unread b k) = absurd (nowhere path b.0 a b.1)
one-cause path bytes e f (misplaced a h) (misread b) = absurd (nowhere path b.kind a b.stands)
one-cause path bytes e f (unread a h) (misplaced b k) = absurd (nowhere path a.0 b a.1)
one-cause path bytes e f (unread a h) (unread b k) = one-unread bytes e f h k
one-cause path bytes e f (unread a h) (misread b) = absurd (is-read bytes e b.text h)
one-cause path bytes e f (misread a) (misplaced b k) = absurd (nowhere path a.kind b a.stands)
one-cause path bytes e f (misread a) (unread b k) = absurd (is-read bytes f a.text k)
one-cause path bytes e f (misread a) (misread b) = one-misread path bytes e f a b

-- ---- files

pub one_fault : (path bytes : Bytes) (e f : ReadFault) → Refused path bytes e → Refused path bytes f → e ≡ f
one_fault path bytes e f a b = one-cause path bytes e f (cause path bytes e a) (cause path bytes f b)

never-both : (path bytes : Bytes) (item : Item) (fault : ReadFault) → Accepted path bytes item → Cause path bytes fault → ⊥
never-both path bytes item fault a (misplaced h k) = nowhere path a.kind h a.stands
never-both path bytes item fault a (unread h k) = is-read bytes fault a.text k
never-both path bytes item fault a (misread m) = texts.not_both a.kind bytes item fault a.reads (fails-as path bytes fault a.kind a.stands m)

pub one_reading : (path bytes : Bytes) (item : Item) (fault : ReadFault) → Accepted path bytes item → Refused path bytes fault → ⊥
one_reading path bytes item fault a r = never-both path bytes item fault a (cause path bytes fault r)

pub one_item : (path bytes : Bytes) (a b : Item) → Accepted path bytes a → Accepted path bytes b → SameItem a b
one_item path bytes a b h k =
    let reads : ReadsAs h.kind bytes b = subst (λ (kind : PathKind). ReadsAs kind bytes b) (one-kind path k.kind h.kind k.stands h.stands) k.reads in
    texts.one_item h.kind bytes a b h.reads reads
