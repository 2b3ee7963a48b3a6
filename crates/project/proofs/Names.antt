-- An ASCII identifier is an identifier in NFKC.
use Rattle.std.proofs.Common.{◌≡◌, ℕ, ◌<◌, Bool, true, false, List, [], ◌∷◌, All, refl, ap, ◌∙◌, arith}
use Rattle.std.specs.Prelude.{◌&&◌, ◌||◌, chars, ◌==◌}
use Rattle.std.specs.List.{list_all, AllByRecursion}
use Rattle.std.proofs.lemmas.Bool.Decides.{nat_tests}
use Rattle.std.proofs.lemmas.List.Elements.{All-from_recursion}
use Rattle.std.proofs.lemmas.Str.{chars-IsAscii}
use Rattle.std.proofs.lemmas.Str.Ascii.{IsAscii-from_all}
use Rattle.unicode_ident.specs.Ident.{is_xid_continue}
use Rattle.unicode_ident.proofs.IdentLemmas.{is_xid_start-ascii, is_xid_continue-ascii}
use Rattle.unicode_normalization.specs.Forms.{Nfkc}
use Rattle.unicode_normalization.proofs.FormsLemmas.{normalize-ascii}
use Rattle.rv_names.specs.Identifier.{IsIdentifier, is_spelled_as_identifier, is_identifier_start}
use Rattle.taint_config.specs.Kinds.{begins_kind, continues_kind, is_ascii_identifier}

begins_small : (c : ℕ) → begins_kind c ≡ true → c < 128
begins_small c h = grind (arith, nat_tests)

continues_small : (c : ℕ) → continues_kind c ≡ true → c < 128
continues_small c h = grind (arith, nat_tests)

and_left : (a b : Bool) → a && b ≡ true → a ≡ true
and_left true b h = refl
and_left false b h = h

and_right : (a b : Bool) → a && b ≡ true → b ≡ true
and_right true b h = h
and_right false b h = absurd cc

and_both : (a b : Bool) → a ≡ true → b ≡ true → a && b ≡ true
and_both a b e f = rw (e, f) refl

starts : (c : ℕ) → begins_kind c ≡ true → is_identifier_start c ≡ true
starts c h = ap (λ (b : Bool). b || (c == 95)) (is_xid_start-ascii c (begins_small c h)) ∙ h

goes_on : (cs : List ℕ) → list_all continues_kind cs ≡ true → list_all is_xid_continue cs ≡ true
goes_on [] h = refl
goes_on (c ∷ cs) h =
    let here = and_left (continues_kind c) _ h in
    and_both _ _ (is_xid_continue-ascii c (continues_small c here) ∙ here) (goes_on cs (and_right (continues_kind c) _ h))

small_all : (cs : List ℕ) → list_all continues_kind cs ≡ true → AllByRecursion (λ c. c < 128) cs
small_all [] h = tt
small_all (c ∷ cs) h = (continues_small c (and_left (continues_kind c) _ h), small_all cs (and_right (continues_kind c) _ h))

small : (cs : List ℕ) → is_ascii_identifier cs ≡ true → AllByRecursion (λ c. c < 128) cs
small [] h = absurd cc
small (c ∷ cs) h = (begins_small c (and_left (begins_kind c) _ h), small_all cs (and_right (begins_kind c) _ h))

spelled : (cs : List ℕ) → is_ascii_identifier cs ≡ true → is_spelled_as_identifier cs ≡ true
spelled [] h = h
spelled (c ∷ cs) h = and_both _ _ (starts c (and_left (begins_kind c) _ h)) (goes_on cs (and_right (begins_kind c) _ h))

pub identifier : (cs : List ℕ) → is_ascii_identifier cs ≡ true → IsIdentifier (chars cs)
identifier cs h =
    let ascii : All (λ c. c < 128) cs = All-from_recursion (λ c. c < 128) cs (small cs h) in
    rw (chars-IsAscii cs (IsAscii-from_all cs ascii)) (record { spelled = spelled cs h; normal = normalize-ascii Nfkc cs ascii })
