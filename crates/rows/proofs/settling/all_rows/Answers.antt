use Rattle.std.proofs.Common.{◌≡◌, ◌<◌, ◌∙◌, ℕ, Contains, sym, subst, inl, inr, arith}
use Rattle.std.proofs.lemmas.Bool.{OnTrue_at, OnFalse_at, cases_eq}
use Rattle.rows.proofs.Indexes.{push_kept, push_has}
use Rattle.rows.proofs.settling.all_rows.Goals as goal

pub loop-row-preserved : goal.loop-row-preserved
loop-row-preserved c =
    let push = c.push_back.ensures in
    let old = c.loop-row.list.ids in
    let new = c.push_back.new.self.ids in record {
      pushed = λ i l. elim (cases_eq i c.loop-row.row) [
        | inl q ↦ subst (λ (z : ℕ). Contains new z) (sym q) (push_has c.push_back.result old new c.loop-row.row push.refused.0 (λ e. OnTrue_at e push.added) (λ e. OnFalse_at e push.kept))
        | inr q ↦ push_kept c.push_back.result old new c.loop-row.row (λ e. OnTrue_at e push.added) (λ e. OnFalse_at e push.kept) i (c.loop-row.invariant.pushed i (let n : i ≡ c.loop-row.row → ⊥ = q in omega arith))
      ];
      room = push.room ∙ c.loop-row.invariant.room;
      well_formed = push.well_formed;
    }
