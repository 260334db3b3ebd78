use Rattle.std.proofs.Common.{ℕ, Bool, List, ap, ◌∙◌, subst}
use Rattle.sudo_beyond.specs.Cases.{IsFirstOther, has_word}
use Rattle.sudo_beyond.proofs.RunLemmas.{files_alike}
use Rattle.sudo_beyond.proofs.names.names_and_other.Goals as goal

pub returns : goal.returns
returns g c =
    let names : List (List ℕ) = c.in_order-cases.result.items in
    record {
      names = names;
      other_name = c.in_ok-other_name.other_name;
      cases_are = c.new.ensures ∙ c.in_ok-push.ensures.items;
      names_are = c.in_order-cases.ensures;
      other_is =
          subst (λ (test : List ℕ → Bool). IsFirstOther test c.in_ok-other_name.other_name)
          (ap has_word c.deref.ensures.value ∙ files_alike c.args.standing.items names c.in_order-cases.ensures) c.in_ok-other_name.ensures;
    }
