-- A file that would hide another is the one that the other would be hidden by.
use Rattle.std.proofs.Common.{◌≡◌, ◌++◌, Option, Some, None, refl, sym, ap, ◌∙◌}
use Rattle.rv_names.specs.Keys.{Bytes}
use Rattle.project.specs.declared.neighbour.Neighbour.TheVariants.{Hider, Hidden}
use Rattle.project.specs.Paths.{before, hidden_at, hider_at, neighbour_in, neighbour_of, package_end, python_end}
use Rattle.project.proofs.Ends.{before_joined, joined_before}

pub hides : (p t : Bytes) → neighbour_of p ≡ Hidden t → neighbour_of t ≡ Hider p
hides p t h = go (before package_end p) refl h
  where
    go : (o : Option Bytes) → before package_end p ≡ o → neighbour_in p o ≡ Hidden t → neighbour_of t ≡ Hider p
    go None e h = by (before python_end p) h
      where
        by : (o : Option Bytes) → hider_at o ≡ Hidden t → neighbour_of t ≡ Hider p
        by None h = absurd cc
        by (Some stem) h = absurd cc
    go (Some folder) e h = by (before package_end (folder ++ python_end)) refl h
      where
        by : (o : Option Bytes) → before package_end (folder ++ python_end) ≡ o → hidden_at (folder ++ python_end) o ≡ Hidden t → neighbour_of t ≡ Hider p
        by None f h =
            let plain : folder ++ python_end ≡ t = cc in
            ap neighbour_of (sym plain)
            ∙ ap (neighbour_in (folder ++ python_end)) f
            ∙ ap hider_at (before_joined python_end folder)
            ∙ ap Hider (sym (joined_before package_end p folder e))
        by (Some x) f h = absurd cc

pub hidden : (p t : Bytes) → neighbour_of t ≡ Hider p → neighbour_of p ≡ Hidden t
hidden p t h = go (before package_end t) refl h
  where
    go : (o : Option Bytes) → before package_end t ≡ o → neighbour_in t o ≡ Hider p → neighbour_of p ≡ Hidden t
    go (Some folder) e h = by (before package_end (folder ++ python_end)) h
      where
        by : (o : Option Bytes) → hidden_at (folder ++ python_end) o ≡ Hider p → neighbour_of p ≡ Hidden t
        by None h = absurd cc
        by (Some x) h = absurd cc
    go None e h = by (before python_end t) refl h
      where
        by : (o : Option Bytes) → before python_end t ≡ o → hider_at o ≡ Hider p → neighbour_of p ≡ Hidden t
        by None f h = absurd cc
        by (Some stem) f h =
            let owner : stem ++ package_end ≡ p = cc in
            let plain : t ≡ stem ++ python_end = joined_before python_end t stem f in
            ap neighbour_of (sym owner)
            ∙ ap (neighbour_in (stem ++ package_end)) (before_joined package_end stem)
            ∙ ap (hidden_at (stem ++ python_end)) (ap (before package_end) (sym plain) ∙ e)
            ∙ ap Hidden (sym plain)
