use Rattle.std.proofs.Common.{◌≡◌, ◌∙◌, ℕ, true, false, sym, subst}
use Rattle.messages.specs.Names.{name_of}
use Rattle.messages.specs.declared.request_name.RequestName.{RequestName}
use Rattle.outcomes.proofs.NameMaps.{SetsAt, sets_from}
use Rattle.archive.specs.private.Ends.{end_at, reaches}
use Rattle.archive.proofs.EndLemmas.{later, not_later}
use Rattle.archive.proofs.ends.add.Goals as goal

pub returns-in_ok-insert-clause-ok : goal.returns-in_ok-insert-clause-ok
returns-in_ok-insert-clause-ok c = λ set are.
    let q = c.args.request.now in
    let old = c.args.ends.now in
    let new = c.insert.new.self in
    let name_is = c.in_ok-name.ensures in
    let late : reaches (end_at old c.in_ok-name.name) c.until.result ≡ false = sym c.reaches.ensures ∙ c.if-not-reaches.true in
    let named : reaches (end_at old (name_of q)) c.until.result ≡ false =
    subst (λ (n : RequestName). reaches (end_at old n) c.until.result ≡ false) name_is late in
    let ends : reaches (end_at old (name_of q)) q.until ≡ false =
    subst (λ (t : ℕ). reaches (end_at old (name_of q)) t ≡ false) c.until.ensures.value named in
    let set_to : SetsAt old new (name_of q) c.until-then-not-reaches.result =
    subst (λ (n : RequestName). SetsAt old new n c.until-then-not-reaches.result) name_is
    (sets_from old new c.in_ok-name.name c.until-then-not-reaches.result c.in_ok-insert.ensures.updates) in
    later set q old new ends (subst (λ (t : ℕ). SetsAt old new (name_of q) t) c.until-then-not-reaches.ensures.value set_to) are

pub returns-else-not-reaches-clause-ok : goal.returns-else-not-reaches-clause-ok
returns-else-not-reaches-clause-ok c = λ set are.
    let q = c.args.request.now in
    let old = c.args.ends.now in
    let late : reaches (end_at old c.in_ok-name.name) c.until.result ≡ true = sym c.reaches.ensures ∙ c.if-not-reaches.false in
    let named : reaches (end_at old (name_of q)) c.until.result ≡ true =
    subst (λ (n : RequestName). reaches (end_at old n) c.until.result ≡ true) c.in_ok-name.ensures late in
    not_later set q old (subst (λ (t : ℕ). reaches (end_at old (name_of q)) t ≡ true) c.until.ensures.value named) are
