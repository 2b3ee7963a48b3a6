-- The names between the slashes of a path.
use Rattle.std.proofs.Common.{◌≡◌, ℕ, suc, not, ◌+◌, ◌<◌, Bool, true, false, cond, List, [], ◌∷◌, ◌++◌, length, take, drop, Option, Some, None, refl, sym, ap, ◌∙◌, subst, arith, append_assoc}
use Rattle.std.specs.Prelude.{◌&&◌, eqb}
use Rattle.std.specs.List.{after_first, before_first, list_all, onto_first, position_or_len}
use Rattle.std.proofs.lemmas.List.Folds.{list_all-append}
use Rattle.std.proofs.lemmas.Str.Pattern.{IsSplitOnceResult, split_once_first}
use Rattle.rv_names.specs.Keys.{Bytes}
use denote.Ref.{Bor}
use Rattle.taint_config.specs.Kinds.{is_ascii_identifier}
use Rattle.project.specs.Paths.{names_in, segments}

abbrev slash : ℕ → Bool
slash b = eqb b 47

-- a path without a slash is one segment
pub last_segment : (path : Bytes) → position_or_len slash path ≡ length path → segments path ≡ path ∷ []
last_segment [] h = refl
last_segment (b ∷ path) h =
    elim (slash b) as (λ s. cond (not s) (1 + position_or_len slash path) 0 ≡ suc (length path) → cond s ([] ∷ segments path) (onto_first b (segments path)) ≡ (b ∷ path) ∷ []) [
      | true ↦ λ e. absurd (omega arith)
      | false ↦ λ e. let rest : position_or_len slash path ≡ length path = omega arith in ap (onto_first b) (last_segment path rest)
    ] h

-- and one with a slash has what stands before it, and the segments behind it
pub first_segment : (path : Bytes) → position_or_len slash path < length path → segments path ≡ before_first slash path ∷ segments (after_first slash path)
first_segment [] h = absurd (omega arith)
first_segment (b ∷ path) h =
    let n = position_or_len slash path in
    elim (slash b) as (λ s. cond (not s) (1 + n) 0 < suc (length path) → cond s ([] ∷ segments path) (onto_first b (segments path)) ≡ take (cond (not s) (1 + n) 0) (b ∷ path) ∷ segments (drop (cond (not s) (1 + n) 0 + 1) (b ∷ path))) [
      | true ↦ λ e. refl
      | false ↦ λ e.
          let rest : n < length path = omega arith in
          let here : suc n ≡ 1 + n = omega arith in
          let next : suc (n + 1) ≡ 1 + n + 1 = omega arith in
          ap (onto_first b) (first_segment path rest) ∙ ap (λ k. (b ∷ take n path) ∷ segments (drop k (b ∷ path))) next ∙ ap (λ k. take k (b ∷ path) ∷ segments (drop (1 + n + 1) (b ∷ path))) here
    ] h

-- names that were read, with the segments that are left
pub record Reads (names : List Bytes) (rest path : Bytes) : Type 0 where
  pub all : names ++ segments rest ≡ segments path
  pub ascii : list_all is_ascii_identifier names ≡ true

and_both : (a b : Bool) → a ≡ true → b ≡ true → a && b ≡ true
and_both a b e f = rw (e, f) refl

pub reads_more : (names : List Bytes) (rest path name more : Bytes) → Reads names rest path → segments rest ≡ name ∷ segments more → is_ascii_identifier name ≡ true → Reads (names ++ name ∷ []) more path
reads_more names rest path name more r at is = record {
  all = append_assoc names (name ∷ []) (segments more) ∙ ap (λ z. names ++ z) (sym at) ∙ r.all;
  ascii = list_all-append is_ascii_identifier names (name ∷ []) ∙ and_both _ _ r.ascii (and_both _ _ is refl);
}

-- a segment that is no identifier
pub reads_none : (names : List Bytes) (rest path name : Bytes) (others : List Bytes) → Reads names rest path → segments rest ≡ name ∷ others → is_ascii_identifier name ≡ false → None ≡ names_in path
reads_none names rest path name others r at is =
    ap (λ b. cond b (Some (segments path)) None)
    (sym (ap (list_all is_ascii_identifier) (sym r.all ∙ ap (λ z. names ++ z) at) ∙ list_all-append is_ascii_identifier names (name ∷ others) ∙ no (list_all is_ascii_identifier names) (is_ascii_identifier name) (list_all is_ascii_identifier others) is))
  where
    no : (a b d : Bool) → b ≡ false → a && (b && d) ≡ false
    no true true d e = absurd cc
    no true false d e = refl
    no false b d e = refl

-- and all of them, once none is left
pub reads_all : (names : List Bytes) (path : Bytes) → names ≡ segments path → list_all is_ascii_identifier names ≡ true → Some names ≡ names_in path
reads_all names path all ascii =
    ap Some all ∙ ap (λ b. cond b (Some (segments path)) None) (sym (ap (list_all is_ascii_identifier) (sym all) ∙ ascii))

-- ---- what the calls give

pub split_some : (path : Bytes) (r : Option (Bor (List ℕ) × Bor (List ℕ))) → IsSplitOnceResult 47 path r → (x : Bor (List ℕ) × Bor (List ℕ)) → r ≡ Some x → segments path ≡ x.0.now ∷ segments x.1.now
split_some path None h x e = absurd cc
split_some path (Some y) h x e =
    let m = split_once_first 47 path (Some y) h (omega arith) in
    let same : y ≡ x = cc in
    subst (λ (z : Bor (List ℕ) × Bor (List ℕ)). segments path ≡ z.0.now ∷ segments z.1.now) same
    (first_segment path m.0 ∙ ap (λ z. z ∷ segments (after_first slash path)) (sym m.1) ∙ ap (λ z. y.0.now ∷ segments z) (sym m.2))

pub split_none : (path : Bytes) (r : Option (Bor (List ℕ) × Bor (List ℕ))) → IsSplitOnceResult 47 path r → r ≡ None → segments path ≡ path ∷ []
split_none path None h e = last_segment path (split_once_first 47 path None h (omega arith))
split_none path (Some y) h e = absurd cc

pub ascii_none : (text : Bytes) → None ≡ cond (is_ascii_identifier text) (Some text) None → is_ascii_identifier text ≡ false
ascii_none text h = go (is_ascii_identifier text) h
  where
    go : (b : Bool) → None ≡ cond b (Some text) None → b ≡ false
    go true h = absurd cc
    go false h = refl

pub ascii_some : (text name : Bytes) → Some name ≡ cond (is_ascii_identifier text) (Some text) None → (is_ascii_identifier text ≡ true) × (name ≡ text)
ascii_some text name h = go (is_ascii_identifier text) h
  where
    go : (b : Bool) → Some name ≡ cond b (Some text) None → (b ≡ true) × (name ≡ text)
    go true h = (refl, cc)
    go false h = absurd cc

-- the last segment, which is read behind the others
pub reads_last : (names all : List Bytes) (rest path : Bytes) → Reads names rest path → segments rest ≡ rest ∷ [] → is_ascii_identifier rest ≡ true → all ≡ names ++ rest ∷ [] → Some all ≡ names_in path
reads_last names all rest path r at is e =
    reads_all all path
    (e ∙ ap (λ z. names ++ z) (sym at) ∙ r.all)
    (ap (list_all is_ascii_identifier) e ∙ list_all-append is_ascii_identifier names (rest ∷ []) ∙ and_both _ _ r.ascii (and_both _ _ is refl))

-- ---- whether all segments are identifiers, once those of the rest are

pub identifiers_none : (rest path first : Bytes) (others : List Bytes) → list_all is_ascii_identifier (segments rest) ≡ list_all is_ascii_identifier (segments path) → segments rest ≡ first ∷ others → is_ascii_identifier first ≡ false → false ≡ list_all is_ascii_identifier (segments path)
identifiers_none rest path first others same at is = ap (λ b. b && list_all is_ascii_identifier others) (sym is) ∙ ap (list_all is_ascii_identifier) (sym at) ∙ same

pub identifiers_more : (rest path first : Bytes) (others : List Bytes) → list_all is_ascii_identifier (segments rest) ≡ list_all is_ascii_identifier (segments path) → segments rest ≡ first ∷ others → is_ascii_identifier first ≡ true → list_all is_ascii_identifier others ≡ list_all is_ascii_identifier (segments path)
identifiers_more rest path first others same at is = ap (λ b. b && list_all is_ascii_identifier others) (sym is) ∙ ap (list_all is_ascii_identifier) (sym at) ∙ same

pub identifiers_last : (rest path : Bytes) → list_all is_ascii_identifier (segments rest) ≡ list_all is_ascii_identifier (segments path) → segments rest ≡ rest ∷ [] → is_ascii_identifier rest ≡ list_all is_ascii_identifier (segments path)
identifiers_last rest path same at = alone (is_ascii_identifier rest) ∙ ap (list_all is_ascii_identifier) (sym at) ∙ same
  where
    alone : (b : Bool) → b ≡ b && true
    alone true = refl
    alone false = refl
