use Rattle.std.proofs.Common.{List, take, drop, ◌+◌, ◌<◌, Bor, refl, inr, arith, rules, sym, subst}
use Rattle.std.specs.Prelude.{string_bytes}
use Rattle.std.proofs.lemmas.List.{take_all}
use Rattle.std.specs.declared.ops.Bound.TheVariants.{Unbounded}
use Rattle.messages.specs.declared.request_name.RequestName.{RequestName}
use Rattle.grants.specs.Summaries.{Kept}
use Rattle.grants.specs.GrantLines.{rules_left}
use Rattle.outcomes.specs.private.Index.{kept_of, names_lent}
use Rattle.outcomes.specs.private.ByName.{at_name}
use Rattle.outcomes.specs.private.InTurn.{Give}
use Rattle.outcomes.proofs.FileLemmas.{named_behind}
use Rattle.outcomes.proofs.HostLines.{some_lines}
use Rattle.outcomes.proofs.HostRoll.{kept_of_ordered, kept_of_stands, lent_both, lent_more}
use Rattle.outcomes.proofs.WalkLemmas.{entries_from, named_lines}
use Rattle.outcomes.proofs.host_file.push_all.Goals as goal

pub loop-name-init : goal.loop-name-init
loop-name-init c = record {
  behind = search rules;
  few = search rules;
  walk = entries_from c.args.summaries.now Unbounded Unbounded c.range-walk.result (c.range-walk.ensures.in_range tt);
}

pub loop-name-preserved : goal.loop-name-preserved
loop-name-preserved c =
    let l = c.loop-name in
    let f = c.args.roster.now.says in
    let host = c.args.host.now in
    let after = c.args.after.now in
    let m = c.args.summaries.now in
    let names = c.args.names.now in
    let i = l.name-index in
    let n = c.name-item.result in
    let first = string_bytes c.args.text.now in
    let new = string_bytes c.push_name.new.text in
    record {
      behind = λ set g.
          let wrote = named_lines f set host after m n.now (string_bytes l.text) new c.in_ok-more.more c.summary_at-found.result
          c.summary_at-found.ensures.value g (c.in_ok-more.ensures set) in
          let b = named_behind f set host after (kept_of m (names_lent (take i names))) (at_name m n.now) first (string_bytes l.text) new
          l.count c.in_ok-more.more (l.invariant.behind set g) wrote in (
            b.0,
            subst (λ (ks : List Kept). Give f set (rules_left after host) ks b.0)
                (sym (lent_more m names i n c.loop-name-test.true c.name-item.is)) b.1,
            b.2,
            b.3,
            b.4,
          );
      few = search rules;
      walk = c.summary_at-found.ensures.rest;
    }

pub returns-then-more-count-clause-err : goal.returns-then-more-count-clause-err
returns-then-more-count-clause-err c = λ set g.
    let l = c.loop-name in
    let f = c.args.roster.now.says in
    let host = c.args.host.now in
    let after = c.args.after.now in
    let m = c.args.summaries.now in
    let names = c.args.names.now in
    let i = l.name-index in
    let n = c.name-item.result in
    let keys = names_lent names in
    let seen = kept_of m (names_lent (take (i + 1) names)) in
    let new = string_bytes c.push_name.new.text in
    let wrote = named_lines f set host after m n.now (string_bytes l.text) new c.in_ok-more.more c.summary_at-found.result
    c.summary_at-found.ensures.value g (c.in_ok-more.ensures set) in
    let b = named_behind f set host after (kept_of m (names_lent (take i names))) (at_name m n.now) (string_bytes c.args.text.now)
    (string_bytes l.text) new l.count c.in_ok-more.more (l.invariant.behind set g) wrote in
    let given = subst (λ (ks : List Kept). Give f set (rules_left after host) ks b.0)
    (sym (lent_more m names i n c.loop-name-test.true c.name-item.is)) b.1 in
    let past : 8_192 < l.count + c.in_ok-more.more = omega (arith, c.if-more-count.true, l.invariant.few) in
    inr (
      refl,
      λ lines are. omega (
        arith,
        past,
        b.4,
        some_lines f set host (kept_of m keys) (kept_of_ordered m set g keys c.requires) (kept_of_stands m set g keys)
            after seen (kept_of m (names_lent (drop (i + 1) names))) b.0 lines (lent_both m names (i + 1)) given are,
      ),
    )

pub returns-clause-ok : goal.returns-clause-ok
returns-clause-ok c = λ set g.
    let l = c.loop-name in
    let b = l.invariant.behind set g in
    let m = c.args.summaries.now in
    record {
      rules = b.0;
      given = subst (λ (ns : List (Bor RequestName)). Give c.args.roster.now.says set (rules_left c.args.after.now c.args.host.now)
          (kept_of m (names_lent ns)) b.0) (take_all l.name-index c.args.names.now c.loop-name-test.false) b.1;
      grants = b.2;
      few = omega (arith, b.4, l.invariant.few);
      text_is = b.3;
    }
