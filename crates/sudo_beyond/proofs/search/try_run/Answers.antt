use Rattle.std.proofs.Common.{◌≡◌, ℕ, ◌+◌, List, [], ◌∷◌, map, take, sym, ap, ◌∙◌, subst}
use Rattle.std.specs.List.{flat_map}
use Rattle.std.proofs.lemmas.Bool.{false≢true}
use Rattle.std.proofs.lemmas.List.Concat.{flat_map_single}
use Rattle.sudo_decide.specs.declared.invocation.Invocation.{Invocation}
use Rattle.sudo_beyond.specs.Cases.{invocation_of}
use Rattle.sudo_beyond.specs.Answer.{IsFirstWith}
use Rattle.sudo_beyond.specs.private.Compared.{IsAnsweredGap}
use Rattle.sudo_beyond.proofs.Gaps.{NoGap, gaps_more, gap_here}
use Rattle.sudo_beyond.proofs.search.try_run.Goals as goal

-- the same invocation at another moment
abbrev at_moment : ℕ → Invocation → Invocation
at_moment t i = record { user = i.user; host = i.host; runas = i.runas; path = i.path; args = i.args; at = t }

moved : {i j : Invocation} (t : ℕ) → i ≡ j → at_moment t i ≡ at_moment t j
moved t same = ap (at_moment t) same

pub returns-then-is_gap-clause-found : goal.returns-then-is_gap-clause-found
returns-then-is_gap-clause-found c =
    let P : Invocation → Type 0 = IsAnsweredGap c.args.a.now c.args.b.now in
    let at : ℕ → Invocation = invocation_of c.args.i.now.user c.args.i.now.host c.args.i.now.runas c.args.run.now in
    let one : ℕ → List Invocation = λ t. at t ∷ [] in
    let moments : List ℕ = c.as_slice-at-items.result.now in
    subst (λ (is : List Invocation). IsFirstWith P is (at_moment c.at-item.result c.loop-at.i))
    (flat_map_single at moments ∙ ap (λ (ts : List ℕ). map at ts) c.as_slice-at-items.ensures)
    (gap_here P one moments c.loop-at.at-index c.at-item.result (at_moment c.at-item.result c.loop-at.i) c.loop-at-test.true c.at-item.is
    (subst (λ (ts : List ℕ). NoGap P (flat_map one (take c.loop-at.at-index ts))) (sym c.as_slice-at-items.ensures) c.loop-at.invariant.none) (record {
      before = [];
      after = [];
      list_is = ap (λ (i : Invocation). i ∷ []) (moved c.at-item.result c.loop-at.invariant.parts);
      here = c.is_gap.ensures.0 c.if-is_gap.true;
      none_before = tt;
    }))

pub loop-at-preserved : goal.loop-at-preserved
loop-at-preserved c =
    let P : Invocation → Type 0 = IsAnsweredGap c.args.a.now c.args.b.now in
    let at : ℕ → Invocation = invocation_of c.args.i.now.user c.args.i.now.host c.args.i.now.runas c.args.run.now in
    let one : ℕ → List Invocation = λ t. at t ∷ [] in
    let moments : List ℕ = c.as_slice-at-items.result.now in
    record {
      none = subst (λ (ts : List ℕ). NoGap P (flat_map one (take (c.loop-at.at-index + 1) ts))) c.as_slice-at-items.ensures
          (gaps_more P one moments c.loop-at.at-index c.at-item.result c.loop-at-test.true c.at-item.is
          (subst (λ (ts : List ℕ). NoGap P (flat_map one (take c.loop-at.at-index ts))) (sym c.as_slice-at-items.ensures) c.loop-at.invariant.none) (
            λ gap. false≢true
                (sym c.if-is_gap.false ∙ c.is_gap.ensures.1 (subst (λ (i : Invocation). P i) (moved c.at-item.result c.loop-at.invariant.parts) gap)),
            tt,
          ));
      parts = moved c.at-item.result c.loop-at.invariant.parts;
    }
