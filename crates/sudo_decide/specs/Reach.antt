-- What a decision depends on: for each rule, what its lists and its command answer, whether it
-- takes part, and its tags; and nothing more.
use Rattle.std.specs.Prelude.{◌≡◌, List, [], ◌∷◌, reverse}
use Rattle.std.specs.List.{flat_map}
use Rattle.sudo_policy.specs.declared.entry.Rule.{Rule}
use Rattle.sudo_policy.specs.declared.entry.Entry.{Entry}
use Rattle.sudo_policy.specs.declared.entry.Entry.TheVariants as entries
use Rattle.sudo_policy.specs.Alias.{user_defs, host_defs, runas_defs}
use Rattle.sudo_decide.specs.declared.invocation.Invocation.{Invocation}
use Rattle.sudo_decide.specs.Decision.{names_say, cmnd_says, takes_part}

-- the rules among entries, in order
abbrev pub rule_in : Entry → List Rule
rule_in (entries.Rule rule) = rule ∷ []
rule_in alias = []

abbrev pub rules_in : List Entry → List Rule
rules_in es = flat_map rule_in es

-- the entries that define the aliases, and the invocation that is asked about
pub record Question : Type 0 where
  pub defined : List Entry
  pub asked : Invocation

-- two rules answer two questions alike: in each list, in the command, in taking part, and in the
-- tags
pub record AnswersAlike (p q : Question) (r s : Rule) : Type 0 where
  pub users : names_say (user_defs p.defined) p.asked.user r.users
      ≡ names_say (user_defs q.defined) q.asked.user s.users
  pub hosts : names_say (host_defs p.defined) p.asked.host r.hosts
      ≡ names_say (host_defs q.defined) q.asked.host s.hosts
  pub runas : names_say (runas_defs p.defined) p.asked.runas r.runas
      ≡ names_say (runas_defs q.defined) q.asked.runas s.runas
  pub cmnd : cmnd_says p.defined r p.asked ≡ cmnd_says q.defined s q.asked
  pub dates : takes_part r p.asked.at ≡ takes_part s q.asked.at
  pub tags : r.tags ≡ s.tags

-- the lists are equally long, and the two rules at each place answer alike
abbrev pub AllAnswerAlike : Question → Question → List Rule → List Rule → Type 0
AllAnswerAlike p q [] [] = Unit {0}
AllAnswerAlike p q [] (s ∷ ss) = ⊥
AllAnswerAlike p q (r ∷ rs) [] = ⊥
AllAnswerAlike p q (r ∷ rs) (s ∷ ss) = AnswersAlike p q r s × AllAnswerAlike p q rs ss

-- the question that asks a policy, by its own definitions, about an invocation
abbrev pub of_policy : List Entry → Invocation → Question
of_policy es i = record { defined = reverse es; asked = i }
