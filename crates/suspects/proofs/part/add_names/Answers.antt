use Rattle.std.proofs.Common.{◌≡◌, List, [], ◌++◌, ◌∷◌, rules, sym, subst, append_assoc}
use Rattle.std.proofs.lemmas.List.{append-nil}
use Rattle.messages.specs.declared.request_name.RequestName.{RequestName}
use Rattle.outcomes.proofs.GivenLists.{turn_split}
use Rattle.suspects.specs.private.Parts.{IsPartFor}
use Rattle.suspects.proofs.part.add_names.Goals as goal

pub loop-name-init : goal.loop-name-init
loop-name-init c = record {
  seen = [];
  split = search rules;
  is = λ set before are is. subst (λ (ns : List RequestName). IsPartFor set ns c.args.part.now) (sym (append-nil before)) is;
}

pub loop-name-preserved : goal.loop-name-preserved
loop-name-preserved c =
    let l = c.loop-name in
    let n = c.in-Some.name.now in
    let seen = l.invariant.seen in
    record {
      seen = seen ++ n ∷ [];
      split = turn_split seen l.name-iterator c.next.new.self c.args.names.now.keys n l.invariant.split c.in-Some.ensures.steps;
      is = λ set before are is.
          subst (λ (ns : List RequestName). IsPartFor set ns c.add_about.new.part) (append_assoc before seen (n ∷ []))
          (c.in_ok-add_about.ensures set (before ++ seen) are (l.invariant.is set before are is));
    }

pub returns : goal.returns
returns c = λ set before are is.
    let l = c.loop-name in
    let done : l.invariant.seen ≡ c.args.names.now.keys = search rules in
    subst (λ (ns : List RequestName). IsPartFor set (before ++ ns) l.part) done (l.invariant.is set before are is)
