-- Facts about decisions that the laws and other crates cite.
use Rattle.std.proofs.Common.{◌≡◌, Bool, false, ◌&&◌, if◌then◌else◌, Some, None, List, [], ◌∷◌, ◌++◌, map, reverse, refl, sym, ap, subst, inl}
use Rattle.std.proofs.lemmas.List.{append-nil}
use Rattle.sudo_policy.specs.declared.entry.Rule.{Rule}
use Rattle.sudo_policy.specs.declared.entry.Entry.{Entry}
use Rattle.sudo_policy.specs.declared.entry.Entry.TheVariants as entries
use Rattle.sudo_decide.specs.declared.decision.Decision.{Decision}
use Rattle.sudo_decide.specs.declared.invocation.Invocation.{Invocation}
use Rattle.sudo_decide.specs.Decision.{takes_part, is_about, cmnd_says, says, entry_says, outcome, Decides, DecidesBy}
use Rattle.sudo_decide.proofs.Speakers as speakers
use Rattle.sudo_decide.proofs.Reaching.{SameDefinitions, decides_same, rule_between, rules_behind, same_back}

-- ---- one more entry, at the end

pub decides_silent_last : (defined es : List Entry) (e : Entry) (i : Invocation) (d : Decision)
    → entry_says defined e i ≡ None → DecidesBy defined es i d → DecidesBy defined (es ++ e ∷ []) i d
decides_silent_last defined es e i d quiet by =
    let P : List Entry → Type 0 = λ x. DecidesBy defined x i d in
    speakers.silent_rule defined es [] e i d quiet (subst P (sym (append-nil es)) by)

pub decides_rule_last : (defined es : List Entry) (r : Rule) (i : Invocation) (answer : Bool)
    → says defined r i ≡ Some answer → DecidesBy defined (es ++ entries.Rule r ∷ []) i (outcome r answer)
decides_rule_last defined es r i answer speaks = inl (record {
  before = es;
  rule = r;
  after = [];
  answer = answer;
  entries_are = refl;
  speaks = speaks;
  silent = tt;
  decision = refl;
})

-- ---- rules define nothing

-- rules after some entries do not change what those entries decide, because rules define nothing
pub same_definitions : (es : List Entry) (rules : List Rule) (i : Invocation) (d : Decision)
    → Decides es i d → DecidesBy (reverse (es ++ map entries.Rule rules)) es i d
same_definitions es rules i d by = decides_same (reverse es) (reverse (es ++ map entries.Rule rules)) es i d (rules_behind es rules) by

-- a silent rule may be added anywhere, or taken away
pub silent_rule_added : (before after : List Entry) (r : Rule) (i : Invocation) (d : Decision)
    → says (reverse (before ++ after)) r i ≡ None → Decides (before ++ after) i d → Decides (before ++ entries.Rule r ∷ after) i d
silent_rule_added before after r i d quiet by =
    let more : SameDefinitions (reverse (before ++ after)) (reverse (before ++ entries.Rule r ∷ after)) = rule_between before after r in
    decides_same (reverse (before ++ after)) (reverse (before ++ entries.Rule r ∷ after)) (before ++ entries.Rule r ∷ after) i d more
    (speakers.silent_rule (reverse (before ++ after)) before after (entries.Rule r) i d quiet by)

pub silent_rule_taken : (before after : List Entry) (r : Rule) (i : Invocation) (d : Decision)
    → says (reverse (before ++ after)) r i ≡ None → Decides (before ++ entries.Rule r ∷ after) i d → Decides (before ++ after) i d
silent_rule_taken before after r i d quiet by =
    let less : SameDefinitions (reverse (before ++ entries.Rule r ∷ after)) (reverse (before ++ after)) =
    same_back (reverse (before ++ after)) (reverse (before ++ entries.Rule r ∷ after)) (rule_between before after r) in
    speakers.silent_rule_back (reverse (before ++ after)) before after (entries.Rule r) i d quiet
    (decides_same (reverse (before ++ entries.Rule r ∷ after)) (reverse (before ++ after)) (before ++ entries.Rule r ∷ after) i d less by)

-- so may a rule whose dates do not hold
outside_is_silent : (defined : List Entry) (r : Rule) (i : Invocation) → takes_part r i.at ≡ false → says defined r i ≡ None
outside_is_silent defined r i outside = ap (λ (b : Bool). if b && is_about defined r i then cmnd_says defined r i else None) outside

pub dated_rule_added : (before after : List Entry) (r : Rule) (i : Invocation) (d : Decision)
    → takes_part r i.at ≡ false → Decides (before ++ after) i d → Decides (before ++ entries.Rule r ∷ after) i d
dated_rule_added before after r i d outside =
    silent_rule_added before after r i d (outside_is_silent (reverse (before ++ after)) r i outside)

pub dated_rule_taken : (before after : List Entry) (r : Rule) (i : Invocation) (d : Decision)
    → takes_part r i.at ≡ false → Decides (before ++ entries.Rule r ∷ after) i d → Decides (before ++ after) i d
dated_rule_taken before after r i d outside =
    silent_rule_taken before after r i d (outside_is_silent (reverse (before ++ after)) r i outside)
