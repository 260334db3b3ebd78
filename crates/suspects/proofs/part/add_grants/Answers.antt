use Rattle.std.proofs.Common.{◌≡◌, ◌+◌, List, [], ◌++◌, ◌∷◌, ◌∙◌, ap, map, take, sym, subst, append_assoc}
use Rattle.std.proofs.lemmas.List.{append-nil, map-append, take_all}
use Rattle.messages.specs.declared.request_name.RequestName.{RequestName}
use Rattle.sudo_words.proofs.Lists.{take_next}
use Rattle.outcomes.specs.Outcomes.{LiveGrant}
use Rattle.suspects.specs.private.Parts.{IsPartFor}
use Rattle.suspects.proofs.part.add_grants.Goals as goal

pub loop-live-init : goal.loop-live-init
loop-live-init c = λ set before are is. subst (λ (ns : List RequestName). IsPartFor set ns c.args.part.now) (sym (append-nil before)) is

pub loop-live-preserved : goal.loop-live-preserved
loop-live-preserved c = λ set before are is.
    let l = c.loop-live in
    let grants = c.args.grants.now in
    let i = l.live-index in
    let item = c.live-item.result in
    let name : LiveGrant → RequestName = λ x. x.name in
    let seen = map name (take i grants) in
    let same : c.live.inside.name ≡ name item = ap name c.live.view_is in
    let more : (before ++ seen) ++ c.live.inside.name ∷ [] ≡ before ++ map name (take (i + 1) grants) =
    append_assoc before seen (c.live.inside.name ∷ [])
    ∙ ap (λ (n : RequestName). before ++ (seen ++ n ∷ [])) same
    ∙ ap (λ (ns : List RequestName). before ++ ns)
    (sym (ap (map name) (take_next grants i item c.loop-live-test.true c.live-item.is) ∙ map-append name (take i grants) (item ∷ []))) in
    subst (λ (ns : List RequestName). IsPartFor set ns c.add_about.new.part) more
    (c.in_ok-add_about.ensures set (before ++ seen) are (l.invariant set before are is))

pub returns : goal.returns
returns c = λ set before are is.
    let l = c.loop-live in
    subst (λ (xs : List LiveGrant). IsPartFor set (before ++ map (λ (x : LiveGrant). x.name) xs) l.part)
    (take_all l.live-index c.args.grants.now c.loop-live-test.false) (l.invariant set before are is)
