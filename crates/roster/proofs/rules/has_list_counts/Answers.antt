use Rattle.std.proofs.Common.{◌≡◌, ◌∙◌, ℕ, List, ◌&&◌, length, nat_le, ap}
use Rattle.roster.specs.Fields.{RosterFields}
use Rattle.roster.specs.Rules.{has_list_counts, is_between}
use Rattle.roster.proofs.Steps.{failed, passed}
use Rattle.roster.proofs.rules.has_list_counts.Goals as goal
use Rattle.roster.proofs.rules.has_list_counts.Goals.{then-is_between, else-is_between, then-is_between-2, else-is_between-2, then-is_up_to, else-is_up_to}

pub returns-then-is_up_to-2 : goal.returns-then-is_up_to-2
returns-then-is_up_to-2 c =
    let f = c.draft.inside in
    let relays : c.is_between.result ≡ is_between 1 64 (length f.relays) = c.is_between.ensures ∙ ap (λ xs. is_between 1 64 (length xs)) c.as_slice.ensures in
    let hosts : c.if-is_between.value ≡ (is_between 1 64 (length f.relays) && is_between 1 1024 (length f.hosts)) = elim c.if-is_between.branch [
      | then-is_between w ↦ passed _ _ _ _ w.if-is_between.true relays
          (w.value-is ∙ w.is_between-then-is_between.ensures ∙ ap (λ xs. is_between 1 1024 (length xs)) w.as_slice-then-is_between.ensures)
      | else-is_between w ↦ failed _ _ _ _ w.if-is_between.false relays w.value-is
    ] in
    let duties : c.if-is_between-2.value ≡ (is_between 1 64 (length f.relays) && is_between 1 1024 (length f.hosts) && nat_le (length f.duties) 256) =
    elim c.if-is_between-2.branch [
      | then-is_between-2 w ↦
          passed _ _ _ _ w.if-is_between-2.true hosts (w.value-is ∙ w.is_up_to.ensures ∙ ap (λ xs. nat_le (length xs) 256) w.as_slice-then-is_between-2.ensures)
      | else-is_between-2 w ↦ failed _ _ _ _ w.if-is_between-2.false hosts w.value-is
    ] in
    let conflicts : c.if-is_up_to.value
    ≡ (is_between 1 64 (length f.relays) && is_between 1 1024 (length f.hosts) && nat_le (length f.duties) 256 && nat_le (length f.conflicts) 4096) =
    elim c.if-is_up_to.branch [
      | then-is_up_to w ↦ passed _ _ _ _ w.if-is_up_to.true duties
          (w.value-is ∙ w.is_up_to-then-is_up_to.ensures ∙ ap (λ xs. nat_le (length xs) 4096) w.as_slice-then-is_up_to.ensures)
      | else-is_up_to w ↦ failed _ _ _ _ w.if-is_up_to.false duties w.value-is
    ] in
    passed _ _ _ _ c.if-is_up_to-2.true conflicts (c.is_up_to-then-is_up_to-2.ensures ∙ ap (λ xs. nat_le (length xs) 4096) c.as_slice-then-is_up_to-2.ensures)
    ∙ ap (λ (g : RosterFields (List ℕ)). has_list_counts g) c.draft.view_is
