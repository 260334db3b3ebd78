use Rattle.std.proofs.Common.{◌≡◌, List, ◌++◌, inl, map, refl, rules, subst, sym}
use Rattle.std.specs.List.{AllByRecursion}
use Rattle.messages.specs.declared.request_name.RequestName.{RequestName}
use Rattle.roster.specs.Fields.{Reading}
use Rattle.desk_store.proofs.OutcomeLemmas.{ok_no_err}
use Rattle.desk_store.proofs.ServingLemmas.{served_as, served_by_none, served_then}
use Rattle.outcomes.specs.Outcomes.{ComesTo}
use Rattle.findings.specs.declared.entry.AuditEntry.{AuditEntry}
use Rattle.desk.proofs.LeftLemmas.{asks_want, settings_both}
use Rattle.desk_audit.proofs.AuditLemmas.{adds_both, are_entries, keyed, keyed_is, lists_same, one_status_more, split_ends, split_once_more}
use Rattle.desk_audit.proofs.entry.entries_of.Goals as goal

pub loop-name-init : goal.loop-name-init
loop-name-init g c =
    let old = c.args.desk.now in
    let P : List AuditEntry → Type 0 = λ es. map keyed es ++ c.into_iter-name-iterator.result ≡ c.args.all.entries in
    record {
      split = subst P (sym c.new-entries.ensures.items) c.into_iter-name-iterator.ensures.into_iter_gives.0;
      told = λ set up is_desk lists.
          let Q : List AuditEntry → Type 0 = λ es. AllByRecursion (λ e. ComesTo old.roster.says set e.name e.status) es in
          subst Q (sym c.new-entries.ensures.items) tt;
      same = λ up. g.met.K.Keeper.same_itself old.keeper;
      live = λ live. live;
      leaves = λ clean left may. inl may;
      settings = record { roster = refl; base = refl; history = refl };
      served = served_by_none old.keeper ⊥ ⊥ (λ none. none);
    }

pub loop-name-preserved : goal.loop-name-preserved
loop-name-preserved g c =
    let K = g.K.Keeper in
    let law = g.met.K.Keeper in
    let old = c.args.desk.now in
    let mid = c.loop-name.desk in
    let new = c.entry_of.new.desk in
    let kept = c.loop-name.invariant in
    let done = c.in_ok-entry.ensures in
    let entry = c.in_ok-entry.entry in
    let entries = c.loop-name.entries.items in
    record {
      split = split_once_more entries c.push.new.self.items entry _ c.loop-name.name-iterator c.next.new.self c.args.all.entries c.in_ok-push.ensures.items
          (keyed_is entry _ _ done.same.0 done.same.1) c.in-Some.ensures.steps kept.split;
      told = λ set up first_desk lists.
          let was_up = done.asks.served.was_up up in
          let same = kept.same was_up in
          let still = lists_same (K.holds old.keeper) (K.holds mid.keeper) set (law.stays_set old.keeper mid.keeper same first_desk) lists in
          let P : AuditEntry → Type 0 = λ e. ComesTo old.roster.says set e.name e.status in
          let F : Reading → Type 0 = λ r. ComesTo r.says set entry.name entry.status in
          one_status_more P entries c.push.new.self.items entry c.in_ok-push.ensures.items (kept.told set was_up first_desk lists)
          (subst F kept.settings.roster (subst (λ (n : RequestName). ComesTo mid.roster.says set n entry.status) (sym done.same.0) (done.status set up still)));
      same = λ up. law.same_on old.keeper mid.keeper new.keeper (kept.same (done.asks.served.was_up up)) (done.asks.unchanged up);
      live = λ live. done.asks.live;
      leaves = adds_both K old.keeper mid.keeper new.keeper done.asks.served.was_clean kept.leaves done.asks.leaves;
      settings = settings_both old mid new kept.settings done.asks.settings;
      served = served_then (λ none. none) kept.served (served_as ⊥ ⊥ (λ none. absurd none) (λ none. none) done.asks.served);
    }

pub returns-in_err-entry : goal.returns-in_err-entry
returns-in_err-entry g c =
    let K = g.K.Keeper in
    let old = c.args.desk.now in
    let mid = c.loop-name.desk in
    let new = c.entry_of.new.desk in
    let kept = c.loop-name.invariant in
    let done = c.in_err-entry.ensures in
    let served = served_then (λ none. absurd none) kept.served done.asks.served in
    record {
      told = search rules;
      err = search rules;
      asks = λ live. asks_want K old new _ (search rules) (settings_both old mid new kept.settings done.asks.settings)
          (λ up. g.met.K.Keeper.same_on old.keeper mid.keeper new.keeper (kept.same (done.asks.served.was_up up)) (done.asks.unchanged up))
          (search rules) (adds_both K old.keeper mid.keeper new.keeper done.asks.served.was_clean kept.leaves done.asks.leaves);
    }

pub returns-in_err-push : goal.returns-in_err-push
returns-in_err-push g c =
    let K = g.K.Keeper in
    let old = c.args.desk.now in
    let mid = c.loop-name.desk in
    let new = c.entry_of.new.desk in
    let kept = c.loop-name.invariant in
    let done = c.in_ok-entry.ensures in
    let served = served_then (λ none. none) kept.served (served_as ⊥ ⊥ (λ none. absurd none) (λ none. none) done.asks.served) in
    record {
      told = search rules;
      err = search rules;
      asks = λ live. asks_want K old new _ (search rules) (settings_both old mid new kept.settings done.asks.settings)
          (λ up. g.met.K.Keeper.same_on old.keeper mid.keeper new.keeper (kept.same (done.asks.served.was_up up)) (done.asks.unchanged up))
          (search rules) (adds_both K old.keeper mid.keeper new.keeper done.asks.served.was_clean kept.leaves done.asks.leaves);
    }

pub returns : goal.returns
returns g c =
    let kept = c.loop-name.invariant in
    record {
      told = λ set list up is_desk lists gathers. are_entries c.args.desk.now.roster.says set list c.args.all gathers c.loop-name.entries.items (split_ends
          c.loop-name.entries.items c.loop-name.name-iterator c.args.all.entries c.in-None.ensures.steps.0 kept.split) (kept.told set up is_desk lists);
      err = search rules;
      asks = λ live. record {
        settings = kept.settings;
        unchanged = kept.same;
        served = served_as _ _ (λ is. ok_no_err _ _ is) (λ none. absurd none) kept.served;
        live = kept.live live;
        leaves = kept.leaves;
      };
    }
