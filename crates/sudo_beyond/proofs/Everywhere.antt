-- What lies beyond a policy anywhere does so at a case.
use Rattle.std.proofs.Common.{◌≡◌, ℕ, List, ◌++◌, inl, inr}
use Rattle.std.specs.Str.{bytes_eq}
use Rattle.sudo_words.specs.Word.{is_name, is_host_name}
use Rattle.sudo_words.specs.Command.{matches}
use Rattle.sudo_words.specs.declared.cmnd.Cmnd.{Cmnd}
use Rattle.sudo_policy.specs.declared.entry.Entry.{Entry}
use Rattle.sudo_policy.specs.Policy.{IsPolicy}
use Rattle.sudo_decide.specs.declared.decision.Decision.TheVariants.{Deny, Allow, AllowNoPassword}
use Rattle.sudo_decide.specs.declared.invocation.Invocation.{Invocation}
use Rattle.sudo_decide.specs.Decision.{takes_part}
use Rattle.sudo_decide.specs.Reach.{rules_in}
use Rattle.sudo_decide.specs.declared.scope.Scope.{Scope}
use Rattle.sudo_beyond.specs.Standing.{users, hosts, runas, commands}
use Rattle.sudo_beyond.specs.Alike.{Alike}
use Rattle.sudo_beyond.specs.Beyond.{IsInvocation, IsInScope, Allows, LiesBeyond, SomethingBeyond}
use Rattle.sudo_beyond.proofs.OneCase.{IsCase, IsCounted}
use Rattle.sudo_beyond.proofs.AlikeLemmas.{all_front, all_back, alike_decide}
use Rattle.sudo_beyond.proofs.NameCases.{name_stands, other_name, other_host}
use Rattle.sudo_beyond.proofs.MomentCases.{moment_stands}
use Rattle.sudo_beyond.proofs.CmndCases.{cmnd_stands}
use Rattle.sudo_beyond.proofs.Counting.{is_counted}
use Rattle.sudo_beyond.proofs.PolicyForms.{are_lawful, lawful_dirs}

-- ---- the case of an invocation

pub record Stands (s : Scope) (a b : List Entry) (i : Invocation) : Type 0 where
  pub case : Invocation
  pub is_case : IsCase s a b case
  pub form : IsInvocation case
  pub scope : IsInScope s case
  pub alike_a : Alike a i case
  pub alike_b : Alike b i case

pub stands : (s : Scope) (a b : List Entry) (i : Invocation) → IsPolicy a → IsPolicy b → IsCounted a b → IsInvocation i → IsInScope s i → Stands s a b i
stands s a b i is_a is_b counted form scope =
    let user = name_stands is_name other_name s.user (users a ++ users b) i.user counted.users form.user scope.user in
    let host = name_stands is_host_name other_host s.host (hosts a ++ hosts b) i.host counted.hosts form.host scope.host in
    let target = name_stands is_name other_name s.runas (runas a ++ runas b) i.runas counted.runas form.runas scope.runas in
    let cmnd = cmnd_stands (commands a ++ commands b) counted.commands
    (lawful_dirs (commands a ++ commands b) (are_lawful a b is_a.each is_b.each)) i.path i.args form.path form.args form.few_args in
    let moment = moment_stands (rules_in a ++ rules_in b) i.at form.at in
    let U : List ℕ → Type 0 = λ name. bytes_eq name i.user ≡ bytes_eq name user.name in
    let H : List ℕ → Type 0 = λ name. bytes_eq name i.host ≡ bytes_eq name host.name in
    let T : List ℕ → Type 0 = λ name. bytes_eq name i.runas ≡ bytes_eq name target.name in
    let C : Cmnd → Type 0 = λ c. matches c i.path i.args ≡ matches c cmnd.file cmnd.given in
    let M : _ → Type 0 = λ r. takes_part r i.at ≡ takes_part r moment.moment in
    record {
      case = record { user = user.name; host = host.name; runas = target.name; path = cmnd.file; args = cmnd.given; at = moment.moment };
      is_case = record { user = user.is_case; host = host.is_case; runas = target.is_case; cmnd = cmnd.is_case; at = moment.is_case };
      form = record {
        user = user.is_form;
        host = host.is_form;
        runas = target.is_form;
        path = cmnd.is_file;
        args = cmnd.are_args;
        few_args = cmnd.few;
        at = moment.is_case.0;
      };
      scope = record { user = user.agrees; host = host.agrees; runas = target.agrees };
      alike_a = record {
        user = all_front U (users a) (users b) user.alike;
        host = all_front H (hosts a) (hosts b) host.alike;
        runas = all_front T (runas a) (runas b) target.alike;
        cmnd = all_front C (commands a) (commands b) cmnd.alike;
        at = all_front M (rules_in a) (rules_in b) moment.alike;
      };
      alike_b = record {
        user = all_back U (users a) (users b) user.alike;
        host = all_back H (hosts a) (hosts b) host.alike;
        runas = all_back T (runas a) (runas b) target.alike;
        cmnd = all_back C (commands a) (commands b) cmnd.alike;
        at = all_back M (rules_in a) (rules_in b) moment.alike;
      };
    }

pub allowed_alike : (es : List Entry) (i j : Invocation) → Alike es i j → Allows es i → Allows es j
allowed_alike es i j alike (inl allow) = inl (alike_decide es i j Allow alike allow)
allowed_alike es i j alike (inr allow) = inr (alike_decide es i j AllowNoPassword alike allow)

-- if an invocation lies beyond, then one of the cases does
pub beyond_at_case : (s : Scope) (a b : List Entry) → IsPolicy a → IsPolicy b → SomethingBeyond s a b → (i : Invocation) × IsCase s a b i × LiesBeyond s a b i
beyond_at_case s a b is_a is_b beyond =
    let i = beyond.0 in
    let by = beyond.1 in
    let at = stands s a b i is_a is_b (is_counted a b is_a is_b) by.form by.scope in (
      at.case,
      at.is_case,
      record {
        form = at.form;
        scope = at.scope;
        gap = record { allowed = allowed_alike a i at.case at.alike_a by.gap.allowed; refused = alike_decide b i at.case Deny at.alike_b by.gap.refused };
      },
    )
