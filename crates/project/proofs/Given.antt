-- The callables of all files, once a file is put or dropped.
use Rattle.std.proofs.Common.{◌≡◌, ℕ, ◌+◌, ◌*◌, ◌≤◌, Bool, true, false, cond, Option, Some, None, refl, sym, ap, ◌∙◌, subst, arith}
use Rattle.std.specs.Prelude.{is_some}
use Rattle.std.specs.Ordering.{eq_by_cmp}
use Rattle.std.specs.FinMap.{contains_key, entries, get, get-insert, get-remove, insert, len, len-entries, remove}
use Rattle.rv_names.specs.Keys.{Bytes, bytes_order}
use Rattle.project.specs.declared.neighbour.Neighbour.{Neighbour}
use Rattle.project.specs.declared.neighbour.Neighbour.TheVariants.{Nobody, Hider, Hidden}
use Rattle.project.specs.Callables.{capped, item_callables}
use Rattle.project.specs.Files.{FileMap, given_by, given_by_all, is_hidden, is_hidden_by, text_of}
use Rattle.project.specs.Items.{FileParts}
use Rattle.project.specs.Paths.{neighbour_of}
use Rattle.project.specs.Sums.{beneath, beneath_by, callables_at}
use Rattle.project.proofs.Neighbours.{hidden, hides}
use Rattle.project.proofs.Totals.{at, sum_change, sum_insert, sum_remove, tied, tied_same, total, total_is, total_same, total_small, total_order}

-- ---- what is found after an insert and after a remove

pub apart : (a b : Bytes) → (a ≡ b → ⊥) → eq_by_cmp bytes_order a b ≡ false
apart a b n = go (eq_by_cmp bytes_order a b) refl
  where
    go : (r : Bool) → eq_by_cmp bytes_order a b ≡ r → eq_by_cmp bytes_order a b ≡ false
    go true p = absurd (n (tied a b p))
    go false p = p

pub get_here : (m : FileMap) (k : Bytes) (v : FileParts) → get (insert m k v) k ≡ Some v
get_here m k v = get-insert total_order m k v k ∙ ap (λ b. cond b (Some v) (get m k)) (tied_same k)

pub get_there : (m : FileMap) (k : Bytes) (v : FileParts) (q : Bytes) → (q ≡ k → ⊥) → get (insert m k v) q ≡ get m q
get_there m k v q n = get-insert total_order m k v q ∙ ap (λ b. cond b (Some v) (get m q)) (apart q k n)

pub gone_here : (m : FileMap) (k : Bytes) → get (remove m k) k ≡ None
gone_here m k = get-remove total_order m k k ∙ ap (λ b. cond b None (get m k)) (tied_same k)

pub gone_there : (m : FileMap) (k : Bytes) (q : Bytes) → (q ≡ k → ⊥) → get (remove m k) q ≡ get m q
gone_there m k q n = get-remove total_order m k q ∙ ap (λ b. cond b None (get m q)) (apart q k n)

-- ---- the sums

abbrev pub weigh : FileMap → Bytes × FileParts → ℕ
weigh m e = given_by m e.0 e.1.item

pub given_total : (m : FileMap) → given_by_all m ≡ total (weigh m) (entries m)
unfolding given_by_all
given_total m = total_is (weigh m) (entries m)

abbrev pub weigh_text : Bytes × FileParts → ℕ
weigh_text e = e.1.len

pub text_total : (m : FileMap) → text_of m ≡ total weigh_text (entries m)
unfolding text_of
text_total m = total_is weigh_text (entries m)

cond_small : (b : Bool) (n : ℕ) → cond b 0 (capped n) ≤ 4294967295
cond_small true n = omega arith
cond_small false n = omega arith

pub given_small : (m : FileMap) → given_by_all m ≤ len m * 4294967295
given_small m =
    let a = total_small (weigh m) (λ e. cond_small (is_hidden m e.0) (item_callables e.1.item)) (entries m) in
    let b = given_total m in
    let c = len-entries m in
    subst (λ z. z ≤ len m * 4294967295) (sym b) (subst (λ z. total (weigh m) (entries m) ≤ z * 4294967295) (sym c) a)

-- two maps that differ at the key k alone hide the same files, but for the one that k would hide
same_hidden : (m n : FileMap) (k : Bytes) → ((q : Bytes) → (q ≡ k → ⊥) → get n q ≡ get m q) → (b : Neighbour) → (b ≡ Hider k → ⊥) → is_hidden_by m b ≡ is_hidden_by n b
same_hidden m n k others Nobody h = refl
same_hidden m n k others (Hidden plain) h = refl
same_hidden m n k others (Hider init) h = ap is_some (sym (others init (λ e. h (ap Hider e))))

none_beneath : (b : Bool) (n : ℕ) → n ≡ 0 → cond b 0 n ≡ 0
none_beneath true n e = refl
none_beneath false n e = e

pub changed : (m n : FileMap) (k : Bytes) → ((q : Bytes) → (q ≡ k → ⊥) → get n q ≡ get m q)
    → total (weigh m) (entries n) + cond (contains_key n k) 0 (beneath m k) ≡ given_by_all n + cond (contains_key m k) 0 (beneath m k)
unfolding beneath
changed m n k others = go (neighbour_of k) refl
  where
    -- the file q is hidden in both or in neither
    alike : (q : Bytes) (x : FileParts) → (neighbour_of q ≡ Hider k → ⊥) → weigh m (q, x) ≡ weigh n (q, x)
    alike q x h = ap (λ b. cond b 0 (capped (item_callables x.item))) (same_hidden m n k others (neighbour_of q) h)

    plain : beneath m k ≡ 0 → ((q : Bytes) → neighbour_of q ≡ Hider k → ⊥) → total (weigh m) (entries n) + cond (contains_key n k) 0 (beneath m k) ≡ given_by_all n + cond (contains_key m k) 0 (beneath m k)
    plain none free =
        let a = total_same (weigh m) (weigh n) (λ q x. alike q x (free q)) (entries n) in
        let b = given_total n in
        let c = none_beneath (contains_key n k) (beneath m k) none in
        let d = none_beneath (contains_key m k) (beneath m k) none in
        omega arith

    go : (b : Neighbour) → neighbour_of k ≡ b → total (weigh m) (entries n) + cond (contains_key n k) 0 (beneath m k) ≡ given_by_all n + cond (contains_key m k) 0 (beneath m k)
    go Nobody e = plain (ap (beneath_by m) e) (λ q h. let i = hidden k q h in cc)
    go (Hider init) e = plain (ap (beneath_by m) e) (λ q h. let i = hidden k q h in cc)
    go (Hidden t) e =
        let hider : neighbour_of t ≡ Hider k = hides k t e in
        let off : t ≡ k → ⊥ = λ s. let i : neighbour_of t ≡ Hidden t = ap neighbour_of s ∙ e in cc in
        let only : (q : Bytes) (x : FileParts) → (q ≡ t → ⊥) → weigh m (q, x) ≡ weigh n (q, x) = λ q x d. alike q x (λ h. d (let i : neighbour_of k ≡ Hidden q = hidden k q h in cc)) in
        let a = sum_change (weigh m) (weigh n) t only n in
        let below : beneath m k ≡ callables_at (get m t) = ap (beneath_by m) e in
        let in_m : at (weigh m) t (get n t) ≡ cond (contains_key m k) 0 (beneath m k) = weight m t hider (get n t) ∙ ap (λ o. cond (contains_key m k) 0 (callables_at o)) (others t off) ∙ ap (λ z. cond (contains_key m k) 0 z) (sym below) in
        let in_n : at (weigh n) t (get n t) ≡ cond (contains_key n k) 0 (beneath m k) = weight n t hider (get n t) ∙ ap (λ o. cond (contains_key n k) 0 (callables_at o)) (others t off) ∙ ap (λ z. cond (contains_key n k) 0 z) (sym below) in
        let b = given_total n in
        omega arith
      where
        weight : (p : FileMap) (t : Bytes) → neighbour_of t ≡ Hider k → (o : Option FileParts) → at (weigh p) t o ≡ cond (contains_key p k) 0 (callables_at o)
        weight p t h None = sym (none_beneath (contains_key p k) 0 refl)
        weight p t h (Some x) = ap (λ b. cond (is_hidden_by p b) 0 (capped (item_callables x.item))) h

pub given_put : (m : FileMap) (k : Bytes) (v : FileParts) → given_by_all (insert m k v) + cond (contains_key m k) 0 (beneath m k) + at (weigh m) k (get m k) ≡ given_by_all m + given_by m k v.item
given_put m k v =
    let a = changed m (insert m k v) k (λ q n. get_there m k v q n) in
    let here : cond (contains_key (insert m k v) k) 0 (beneath m k) ≡ 0 = ap (λ o. cond (is_some o) 0 (beneath m k)) (get_here m k v) in
    let b = sum_insert (weigh m) m k v in
    let c = given_total m in
    omega arith

pub given_remove : (m : FileMap) (k : Bytes) → given_by_all m + beneath m k ≡ given_by_all (remove m k) + cond (contains_key m k) 0 (beneath m k) + at (weigh m) k (get m k)
given_remove m k =
    let a = changed m (remove m k) k (λ q n. gone_there m k q n) in
    let here : cond (contains_key (remove m k) k) 0 (beneath m k) ≡ beneath m k = ap (λ o. cond (is_some o) 0 (beneath m k)) (gone_here m k) in
    let b = sum_remove (weigh m) m k in
    let c = given_total m in
    omega arith

pub text_put : (m : FileMap) (k : Bytes) (v : FileParts) → text_of (insert m k v) + at weigh_text k (get m k) ≡ text_of m + v.len
text_put m k v =
    let a = sum_insert weigh_text m k v in
    let b = text_total m in
    let c = text_total (insert m k v) in
    omega arith

pub text_remove : (m : FileMap) (k : Bytes) → text_of (remove m k) + at weigh_text k (get m k) ≡ text_of m
text_remove m k =
    let a = sum_remove weigh_text m k in
    let b = text_total m in
    let c = text_total (remove m k) in
    omega arith
