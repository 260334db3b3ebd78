-- A decision depends only on what each rule's lists and command answer, its dates and its tags; and on the definitions only through those answers.
use Rattle.std.proofs.Common.{◌≡◌, Bool, ◌&&◌, if◌then◌else◌, Option, None, List, [], ◌∷◌, ◌++◌, map, reverse, refl, sym, ap, ◌∙◌}
use Rattle.std.specs.List.{flat_map}
use Rattle.std.specs.Option.{option_map, option_or}
use Rattle.std.proofs.lemmas.Grind.{flat_map-append}
use Rattle.std.proofs.lemmas.List.{append-nil, reverse-append}
use Rattle.sudo_policy.specs.declared.entry.CmndItem.{CmndItem}
use Rattle.sudo_policy.specs.declared.entry.Rule.{Rule}
use Rattle.sudo_policy.specs.declared.entry.Entry.{Entry}
use Rattle.sudo_policy.specs.declared.entry.Entry.TheVariants as entries
use Rattle.sudo_policy.specs.declared.tags.Tags.{Tags}
use Rattle.sudo_policy.specs.declared.tree.Definition.{Definition}
use Rattle.sudo_policy.specs.Alias.{user_def, host_def, runas_def, cmnd_def, user_defs, host_defs, runas_defs, cmnd_defs}
use Rattle.sudo_decide.specs.declared.decision.Decision.{Decision}
use Rattle.sudo_decide.specs.declared.invocation.Invocation.{Invocation}
use Rattle.sudo_decide.specs.Decision.{is_yes, signed_answer, cmnd_answer, cmnd_alias_says, names_say}
use Rattle.sudo_decide.specs.Decision.{takes_part, cmnd_says, says, outcome, decision_of, DecidesBy}
use Rattle.sudo_decide.specs.Reach.{rules_in, Question, AnswersAlike, AllAnswerAlike}
use Rattle.sudo_decide.proofs.AnswerLemmas.{option_or-None}
use Rattle.sudo_decide.proofs.Speakers.{spoken, last_spoken, last_spoken-nil, last_spoken-cons, decides_alike}

-- ---- only rules count

last_rule_spoken : List Entry → Invocation → List Rule → Option Decision
last_rule_spoken defined i [] = None
last_rule_spoken defined i (r ∷ rs) = option_or (last_rule_spoken defined i rs) (spoken defined i (entries.Rule r))

-- an entry that is not a rule is passed over
passed : (defined : List Entry) (i : Invocation) (e : Entry) (es : List Entry) (o : Option Decision)
    → spoken defined i e ≡ None → last_spoken defined i es ≡ o → last_spoken defined i (e ∷ es) ≡ o
passed defined i e es o quiet was =
    last_spoken-cons defined i e es
    ∙ ap (option_or (last_spoken defined i es)) quiet
    ∙ option_or-None (last_spoken defined i es)
    ∙ was

last_spoken_of_rules : (defined : List Entry) (i : Invocation) (es : List Entry) → last_spoken defined i es ≡ last_rule_spoken defined i (rules_in es)
unfolding last_rule_spoken
last_spoken_of_rules defined i [] = last_spoken-nil defined i
last_spoken_of_rules defined i (entries.UserAlias name list ∷ es) =
    passed defined i (entries.UserAlias name list) es (last_rule_spoken defined i (rules_in es)) refl (last_spoken_of_rules defined i es)
last_spoken_of_rules defined i (entries.RunasAlias name list ∷ es) =
    passed defined i (entries.RunasAlias name list) es (last_rule_spoken defined i (rules_in es)) refl (last_spoken_of_rules defined i es)
last_spoken_of_rules defined i (entries.HostAlias name list ∷ es) =
    passed defined i (entries.HostAlias name list) es (last_rule_spoken defined i (rules_in es)) refl (last_spoken_of_rules defined i es)
last_spoken_of_rules defined i (entries.CmndAlias name list ∷ es) =
    passed defined i (entries.CmndAlias name list) es (last_rule_spoken defined i (rules_in es)) refl (last_spoken_of_rules defined i es)
last_spoken_of_rules defined i (entries.Rule rule ∷ es) =
    last_spoken-cons defined i (entries.Rule rule) es
    ∙ ap (λ (o : Option Decision). option_or o (spoken defined i (entries.Rule rule))) (last_spoken_of_rules defined i es)

-- ---- rules that answer alike

says_from : Bool → Option Bool → Option Bool → Option Bool → Option Bool → Option Bool
says_from dates users hosts runas cmnd = if dates && (is_yes users && is_yes hosts && is_yes runas) then cmnd else None

says_alike : (p q : Question) (r s : Rule) → AnswersAlike p q r s → says p.defined r p.asked ≡ says q.defined s q.asked
unfolding says_from
says_alike p q r s alike =
    let hosts_p = names_say (host_defs p.defined) p.asked.host r.hosts in
    let runas_p = names_say (runas_defs p.defined) p.asked.runas r.runas in
    let cmnd_p = cmnd_says p.defined r p.asked in
    let users_q = names_say (user_defs q.defined) q.asked.user s.users in
    let hosts_q = names_say (host_defs q.defined) q.asked.host s.hosts in
    let runas_q = names_say (runas_defs q.defined) q.asked.runas s.runas in
    let dates_p = takes_part r p.asked.at in
    let by_users : says p.defined r p.asked ≡ says_from dates_p users_q hosts_p runas_p cmnd_p =
    ap (λ (a : Option Bool). says_from dates_p a hosts_p runas_p cmnd_p) alike.users in
    let by_hosts : says_from dates_p users_q hosts_p runas_p cmnd_p ≡ says_from dates_p users_q hosts_q runas_p cmnd_p =
    ap (λ (a : Option Bool). says_from dates_p users_q a runas_p cmnd_p) alike.hosts in
    let by_runas : says_from dates_p users_q hosts_q runas_p cmnd_p ≡ says_from dates_p users_q hosts_q runas_q cmnd_p =
    ap (λ (a : Option Bool). says_from dates_p users_q hosts_q a cmnd_p) alike.runas in
    let by_cmnd : says_from dates_p users_q hosts_q runas_q cmnd_p ≡ says_from dates_p users_q hosts_q runas_q (cmnd_says q.defined s q.asked) =
    ap (says_from dates_p users_q hosts_q runas_q) alike.cmnd in
    let by_dates : says_from dates_p users_q hosts_q runas_q (cmnd_says q.defined s q.asked) ≡ says q.defined s q.asked =
    ap (λ (b : Bool). says_from b users_q hosts_q runas_q (cmnd_says q.defined s q.asked)) alike.dates in
    by_users ∙ by_hosts ∙ by_runas ∙ by_cmnd ∙ by_dates

spoken_alike : (p q : Question) (r s : Rule) → AnswersAlike p q r s → spoken p.defined p.asked (entries.Rule r) ≡ spoken q.defined q.asked (entries.Rule s)
spoken_alike p q r s alike =
    let by_tags : option_map (outcome r) (says p.defined r p.asked) ≡ option_map (outcome s) (says p.defined r p.asked) =
    ap (λ (tags : Tags). option_map (decision_of tags) (says p.defined r p.asked)) alike.tags in
    by_tags ∙ ap (option_map (outcome s)) (says_alike p q r s alike)

rules_spoken_alike : (p q : Question) (rs ss : List Rule) → AllAnswerAlike p q rs ss
    → last_rule_spoken p.defined p.asked rs ≡ last_rule_spoken q.defined q.asked ss
unfolding last_rule_spoken
rules_spoken_alike p q [] [] alike = refl
rules_spoken_alike p q [] (s ∷ ss) alike = absurd alike
rules_spoken_alike p q (r ∷ rs) [] alike = absurd alike
rules_spoken_alike p q (r ∷ rs) (s ∷ ss) alike =
    let first : option_or (last_rule_spoken p.defined p.asked rs) (spoken p.defined p.asked (entries.Rule r))
    ≡ option_or (last_rule_spoken p.defined p.asked rs) (spoken q.defined q.asked (entries.Rule s)) =
    ap (option_or (last_rule_spoken p.defined p.asked rs)) (spoken_alike p q r s alike.0) in
    first
    ∙ ap (λ (o : Option Decision). option_or o (spoken q.defined q.asked (entries.Rule s))) (rules_spoken_alike p q rs ss alike.1)

-- where the rules answer alike, the decision is the same
pub answers_decide : (p q : Question) (es fs : List Entry) (d : Decision)
    → AllAnswerAlike p q (rules_in es) (rules_in fs) → DecidesBy p.defined es p.asked d → DecidesBy q.defined fs q.asked d
answers_decide p q es fs d alike by =
    decides_alike p.defined q.defined es fs p.asked q.asked d
    (last_spoken_of_rules p.defined p.asked es
    ∙ rules_spoken_alike p q (rules_in es) (rules_in fs) alike
    ∙ sym (last_spoken_of_rules q.defined q.asked fs))
    by

-- ---- the same definitions

pub record SameDefinitions (p q : List Entry) : Type 0 where
  pub users : user_defs p ≡ user_defs q
  pub hosts : host_defs p ≡ host_defs q
  pub runas : runas_defs p ≡ runas_defs q
  pub cmnds : cmnd_defs p ≡ cmnd_defs q

-- what the command says, by these definitions
cmnd_says_by : List (Definition CmndItem) → Rule → Invocation → Option Bool
cmnd_says_by defs r i = signed_answer r.cmnd.negated (cmnd_answer (cmnd_alias_says defs i.path i.args) i.path i.args r.cmnd.item)

same_answers : (p q : List Entry) (i : Invocation) (r : Rule) → SameDefinitions p q
    → AnswersAlike (record { defined = p; asked = i }) (record { defined = q; asked = i }) r r
unfolding cmnd_says_by
same_answers p q i r same = record {
  users = ap (λ (ds : _). names_say ds i.user r.users) same.users;
  hosts = ap (λ (ds : _). names_say ds i.host r.hosts) same.hosts;
  runas = ap (λ (ds : _). names_say ds i.runas r.runas) same.runas;
  cmnd = ap (λ (ds : _). cmnd_says_by ds r i) same.cmnds;
  dates = refl;
  tags = refl;
}

all_same_answers : (p q : List Entry) (i : Invocation) (rs : List Rule) → SameDefinitions p q
    → AllAnswerAlike (record { defined = p; asked = i }) (record { defined = q; asked = i }) rs rs
all_same_answers p q i [] same = tt
all_same_answers p q i (r ∷ rs) same = (same_answers p q i r same, all_same_answers p q i rs same)

pub decides_same : (p q es : List Entry) (i : Invocation) (d : Decision) → SameDefinitions p q → DecidesBy p es i d → DecidesBy q es i d
decides_same p q es i d same by =
    answers_decide (record { defined = p; asked = i }) (record { defined = q; asked = i }) es es d (all_same_answers p q i (rules_in es) same) by

-- ---- rules define nothing

defs_around : {X : Type 0} (def : Entry → List (Definition X)) (before middle after : List Entry)
    → flat_map def (reverse middle) ≡ [] → flat_map def (reverse (before ++ after)) ≡ flat_map def (reverse (before ++ (middle ++ after)))
defs_around {X} def before middle after nothing =
    let without : flat_map def (reverse (middle ++ after)) ≡ flat_map def (reverse after) =
    ap (flat_map def) (reverse-append middle after)
    ∙ flat_map-append def (reverse after) (reverse middle)
    ∙ ap (λ (ds : List (Definition X)). flat_map def (reverse after) ++ ds) nothing
    ∙ append-nil (flat_map def (reverse after)) in
    ap (flat_map def) (reverse-append before after)
    ∙ flat_map-append def (reverse after) (reverse before)
    ∙ ap (λ (ds : List (Definition X)). ds ++ flat_map def (reverse before)) (sym without)
    ∙ sym (flat_map-append def (reverse (middle ++ after)) (reverse before))
    ∙ ap (flat_map def) (sym (reverse-append before (middle ++ after)))

pub rule_between : (before after : List Entry) (r : Rule) → SameDefinitions (reverse (before ++ after)) (reverse (before ++ entries.Rule r ∷ after))
rule_between before after r = record {
  users = defs_around user_def before (entries.Rule r ∷ []) after refl;
  hosts = defs_around host_def before (entries.Rule r ∷ []) after refl;
  runas = defs_around runas_def before (entries.Rule r ∷ []) after refl;
  cmnds = defs_around cmnd_def before (entries.Rule r ∷ []) after refl;
}

rules_define_nothing : {X : Type 0} (def : Entry → List (Definition X)) (rules : List Rule)
    → ((r : Rule) → def (entries.Rule r) ≡ []) → flat_map def (reverse (map entries.Rule rules)) ≡ []
rules_define_nothing def [] nothing = refl
rules_define_nothing {X} def (r ∷ rules) nothing =
    ap (flat_map def) (reverse-append (entries.Rule r ∷ []) (map entries.Rule rules))
    ∙ flat_map-append def (reverse (map entries.Rule rules)) (entries.Rule r ∷ [])
    ∙ ap (λ (ds : List (Definition X)). ds ++ (def (entries.Rule r) ++ [])) (rules_define_nothing def rules nothing)
    ∙ append-nil (def (entries.Rule r))
    ∙ nothing r

defs_and_rules : {X : Type 0} (def : Entry → List (Definition X)) (es : List Entry) (rules : List Rule)
    → ((r : Rule) → def (entries.Rule r) ≡ []) → flat_map def (reverse es) ≡ flat_map def (reverse (es ++ map entries.Rule rules))
defs_and_rules def es rules nothing =
    ap (λ (fs : List Entry). flat_map def (reverse fs)) (sym (append-nil es))
    ∙ defs_around def es (map entries.Rule rules) [] (rules_define_nothing def rules nothing)
    ∙ ap (λ (fs : List Entry). flat_map def (reverse (es ++ fs))) (append-nil (map entries.Rule rules))

pub rules_behind : (es : List Entry) (rules : List Rule) → SameDefinitions (reverse es) (reverse (es ++ map entries.Rule rules))
rules_behind es rules = record {
  users = defs_and_rules user_def es rules (λ r. refl);
  hosts = defs_and_rules host_def es rules (λ r. refl);
  runas = defs_and_rules runas_def es rules (λ r. refl);
  cmnds = defs_and_rules cmnd_def es rules (λ r. refl);
}

pub same_back : (p q : List Entry) → SameDefinitions p q → SameDefinitions q p
same_back p q same = record { users = sym same.users; hosts = sym same.hosts; runas = sym same.runas; cmnds = sym same.cmnds }
