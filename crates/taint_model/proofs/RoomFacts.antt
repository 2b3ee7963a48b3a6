-- The room above puts, lists of trees and models falls where they rise.
use Rattle.std.proofs.Common.{◌≡◌, ℕ, ◌≤◌, ◌<◌, List, [], ◌∷◌, Option, Some, None, refl, sym, subst, inl, inr, ◌⊎◌, arith, length}
use Rattle.std.specs.FinMap.{get}
use Rattle.std.proofs.lemmas.Bool.{cases_lt}
use Rattle.path_trees.specs.declared.steps.Step.{Step}
use Rattle.path_trees.specs.Trees.{Below, IsHeldTree, IsWithin, TreeMap}
use Rattle.path_trees.specs.Room.{all_steps, room}
use Rattle.path_trees.proofs.Rooms.{In, in_steps, room-falls, room-mono}
use Rattle.taint_model.specs.declared.models.Model.{Model}
use Rattle.taint_model.specs.Puts.{ArePutsHeld, PutMap, PutsBelow, put_room, room_at, tree_at, tree_of, with_put}
use Rattle.taint_model.specs.Lists.{AreTreesHeld, TreesBelow, list_room}
use Rattle.taint_model.specs.Models.{IsHeldModel, ModelBelow, joined_models, model_room}
use Rattle.taint_model.proofs.TreeFacts.{empty_below}
use Rattle.taint_model.proofs.PutJoins.{put_above, put_stands}
use Rattle.taint_model.proofs.ModelFacts.{model_join_first, model_join_second, model_trans}
use Rattle.path_trees.proofs.Finite.{below_trans}

stands_or_not : (o : Option ℕ) (d : ℕ) → IsWithin o d ⊎ ¬ (IsWithin o d)
stands_or_not None d = inr (λ h. h)
stands_or_not (Some n) d = go (cases_lt d n)
  where
    go : (d < n) ⊎ (n ≤ d) → (n ≤ d) ⊎ ¬ (n ≤ d)
    go (inl l) = inr (λ h. omega arith)
    go (inr g) = inl g

-- a tree that cannot but be below another is
below_stable : (t u : TreeMap) → ¬ (¬ (Below t u)) → Below t u
below_stable t u h = record { at = λ s d k. go (λ n. h (λ b. n (b.at s d k))) (stands_or_not (get u s) d) }
  where
    go : {A : Type 0} → (¬ A → ⊥) → A ⊎ ¬ A → A
    go k (inl a) = a
    go k (inr n) = absurd (k n)

-- where the room has not fallen, the tree has not risen
pub room_full : (t u : TreeMap) → IsHeldTree u → Below t u → room t ≤ room u → Below u t
room_full t u held h k = below_stable u t (λ n. let l = room-falls t u held h n in absurd (omega arith))

room_at-mono : (p q : PutMap) (cs : List Step) → PutsBelow p q → room_at q cs ≤ room_at p cs
unfolding room_at
room_at-mono p q [] h = omega arith
room_at-mono p q (c ∷ cs) h = let a = room-mono (tree_at p c) (tree_at q c) (h.at c) in let b = room_at-mono p q cs h in omega arith

room_at-falls : (p q : PutMap) (cs : List Step) (c : Step) → PutsBelow p q → In c cs → room (tree_at q c) < room (tree_at p c) → room_at q cs < room_at p cs
unfolding room_at
room_at-falls p q [] c h m l = absurd m
room_at-falls p q (d ∷ cs) c h (inl e) l =
    let a : room (tree_at q d) < room (tree_at p d) = subst (λ (z : Step). room (tree_at q z) < room (tree_at p z)) e l in let b = room_at-mono p q cs h in omega arith
room_at-falls p q (d ∷ cs) c h (inr m) l = let a = room-mono (tree_at p d) (tree_at q d) (h.at d) in let b = room_at-falls p q cs c h m l in omega arith

pub put_room-mono : (p q : PutMap) → PutsBelow p q → put_room q ≤ put_room p
unfolding put_room
put_room-mono p q h = room_at-mono p q all_steps h

pub put_room_full : (p q : PutMap) → ArePutsHeld q → PutsBelow p q → put_room p ≤ put_room q → PutsBelow q p
unfolding put_room
put_room_full p q held h k = record { at = λ c. go c (get q c) refl }
  where
    full : (c : Step) (t : TreeMap) → get q c ≡ Some t → room (tree_at p c) ≤ room (tree_at q c)
    full c t e = elim (cases_lt (room (tree_at q c)) (room (tree_at p c))) [
      | inl l ↦ absurd (let f = room_at-falls p q all_steps c h (in_steps c (held.cells c t e)) l in omega arith)
      | inr g ↦ g
    ]

    go : (c : Step) (o : Option TreeMap) → get q c ≡ o → Below (tree_at q c) (tree_at p c)
    go c None e = subst (λ (o : Option TreeMap). Below (tree_of o) (tree_at p c)) (sym e) (empty_below (tree_at p c))
    go c (Some t) e = room_full (tree_at p c) (tree_at q c) (subst (λ (o : Option TreeMap). IsHeldTree (tree_of o)) (sym e) (held.trees c t e)) (h.at c) (full c t e)

pub put_room-falls : (p q : PutMap) → ArePutsHeld q → PutsBelow p q → ¬ (PutsBelow q p) → put_room q < put_room p
put_room-falls p q held h n = elim (cases_lt (put_room q) (put_room p)) [ inl l ↦ l | inr g ↦ absurd (n (put_room_full p q held h g)) ]

pub list_room-mono : (ts us : List TreeMap) → TreesBelow ts us → list_room us ≤ list_room ts
unfolding list_room
list_room-mono [] [] h = omega arith
list_room-mono [] (u ∷ us) h = absurd h
list_room-mono (t ∷ ts) [] h = absurd h
list_room-mono (t ∷ ts) (u ∷ us) h = let a = room-mono t u h.0 in let b = list_room-mono ts us h.1 in omega arith

pub list_room_full : (ts us : List TreeMap) → AreTreesHeld us → TreesBelow ts us → list_room ts ≤ list_room us → TreesBelow us ts
unfolding list_room
list_room_full [] [] held h k = tt
list_room_full [] (u ∷ us) held h k = absurd h
list_room_full (t ∷ ts) [] held h k = absurd h
list_room_full (t ∷ ts) (u ∷ us) held h k =
    let a = room-mono t u h.0 in let b = list_room-mono ts us h.1 in (room_full t u held.0 h.0 (omega arith), list_room_full ts us held.1 h.1 (omega arith))

pub model_room-mono : (a b : Model) → ModelBelow a b → model_room b ≤ model_room a
unfolding model_room
model_room-mono a b h =
    let r = room-mono a.result b.result h.result in
    let l = list_room-mono a.back b.back h.back in
    let p = put_room-mono a.puts b.puts h.puts in omega arith

model_room_full : (a b : Model) → IsHeldModel b → ModelBelow a b → model_room a ≤ model_room b → ModelBelow b a
unfolding model_room
model_room_full a b held h k =
    let r = room-mono a.result b.result h.result in
    let l = list_room-mono a.back b.back h.back in
    let p = put_room-mono a.puts b.puts h.puts in
    record {
      result = room_full a.result b.result held.result h.result (omega arith);
      back = list_room_full a.back b.back held.back h.back (omega arith);
      puts = put_room_full a.puts b.puts held.puts h.puts (omega arith);
    }

pub model_room-falls : (a b : Model) → IsHeldModel b → ModelBelow a b → ¬ (ModelBelow b a) → model_room b < model_room a
model_room-falls a b held h n = elim (cases_lt (model_room b) (model_room a)) [ inl l ↦ l | inr g ↦ absurd (n (model_room_full a b held h g)) ]

-- a put that tells something new lowers the room
pub put_room_put : (p q : PutMap) (c : Step) (t : TreeMap) → ArePutsHeld q → q ≡ with_put p c t → ¬ (Below t (tree_at p c)) → put_room q < put_room p
put_room_put p q c t held e n =
    put_room-falls p q held (subst (PutsBelow p) (sym e) (put_above p c t)) (λ b. n (below_trans (put_stands p c t) ((subst (λ (z : PutMap). PutsBelow z p) e b).at c)))

-- and so does a join with a model that tells something new
pub model_room_join : (a b m : Model) → length a.back ≡ length b.back → IsHeldModel m → m ≡ joined_models a b → ¬ (ModelBelow b a) → model_room m < model_room a
model_room_join a b m l held e n =
    model_room-falls a m held (subst (ModelBelow a) (sym e) (model_join_first a b l)) (λ k. n (model_trans b m a (subst (ModelBelow b) (sym e) (model_join_second a b l)) k))
