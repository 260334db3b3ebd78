use Rattle.std.proofs.Common.{◌≡◌, ℕ, List, ◌∙◌, ap, sym, subst}
use Rattle.std.specs.List.{Contains}
use Rattle.messages.specs.declared.request_name.RequestName.{RequestName}
use Rattle.outcomes.specs.declared.index.Ending.{Ending}
use Rattle.outcomes.specs.private.Index.{ending_cmp, ending_of, endings_at}
use Rattle.outcomes.proofs.IndexLemmas.{inserted_here, inserted_stays, same_ending, still_listed}
use Rattle.outcomes.proofs.index.Index.list.Goals as goal

pub returns-in_err-list_hosts-clause-stays : goal.returns-in_err-list_hosts-clause-stays
returns-in_err-list_hosts-clause-stays c =
    let old = c.args.self.now in
    still_listed old (record { hosts = c.list_hosts.new.hosts; all = old.all }) c.list_hosts.ensures.stays (λ other among. among)

pub returns-in_err-insert-clause-stays : goal.returns-in_err-insert-clause-stays
returns-in_err-insert-clause-stays c =
    let old = c.args.self.now in
    still_listed old (record { hosts = c.list_hosts.new.hosts; all = c.insert.new.self }) c.list_hosts.ensures.stays
    (λ other among. subst (λ (es : List Ending). Contains es other) (sym c.in_err-insert.ensures.err) among)

pub returns-clause-stays : goal.returns-clause-stays
returns-clause-stays c =
    let old = c.args.self.now in
    still_listed old (record { hosts = c.list_hosts.new.hosts; all = c.insert.new.self }) c.list_hosts.ensures.stays
    (λ other among. subst (λ (es : List Ending). Contains es other) (sym c.in_ok-insert.ensures.keys)
    (inserted_stays ending_cmp same_ending old.all.keys _ other among))

pub returns-clause-here : goal.returns-clause-here
returns-clause-here c =
    let q = c.args.request.now in
    let name = c.args.name.now in
    let ending : Ending = record { until = c.until.result; name = c.in_ok-clone.field-0 } in
    let same : ending ≡ ending_of name q =
    ap (λ (t : ℕ). record { until = t; name = ending.name }) c.until.ensures.value
    ∙ ap (λ (n : RequestName). record { until = q.until; name = n }) c.in_ok-clone.ensures.cases in
    record {
      request = c.until.ensures.request;
      at_hosts = λ host lists. subst (λ (e : Ending). Contains (endings_at c.list_hosts.new.hosts host) e) same
          (c.in_ok-list_hosts.ensures.here host (subst (λ (hs : List (List ℕ)). Contains hs host) (sym c.hosts.ensures.value) lists));
      among_all = subst (λ (e : Ending). Contains c.insert.new.self.keys e) same
          (subst (λ (es : List Ending). Contains es ending) (sym c.in_ok-insert.ensures.keys)
          (inserted_here ending_cmp same_ending c.args.self.now.all.keys ending));
    }
