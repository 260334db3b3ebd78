-- Admission and the first denial, from the tests of each condition.
use Rattle.std.proofs.Common.{◌≡◌, ℕ, ◌+◌, ◌<◌, ◌⊎◌, ◌==◌, cond, true, false, List, Some, None, All, refl, sym, ap, ◌∙◌, subst, inl, inr, arith}
use Rattle.std.specs.Prelude.{Contains}
use Rattle.std.specs.List.{list_all, list_any}
use Rattle.std.proofs.lemmas.Bool.{both_ways, cases_lt}
use Rattle.std.proofs.lemmas.List.Elements.{All-contains}
use Rattle.std.proofs.lemmas.Option.{same_Some, none-some}
use Rattle.sudo_words.specs.Command.{IsLawful}
use Rattle.sudo_words.specs.declared.cmnd.Cmnd.{Cmnd}
use Rattle.messages.specs.Fields.{RequestFields}
use Rattle.messages.specs.declared.message.Message.TheVariants.{Request}
use Rattle.roster.specs.Fields.{CeilingFields, RosterFields}
use Rattle.roster.specs.Relations.{ceiling_at, has_person, holds}
use Rattle.roster.specs.Rules.{is_among}
use Rattle.grants.specs.private.Forms.{is_inside}
use Rattle.grants.specs.Denials.{denial_number}
use Rattle.grants.specs.Admission.{LiesInsideOne, IsWithin, MayAskUnder, AdmitsRequest, UnderCeiling}
use Rattle.grants.specs.Admission.{HasHostOutside, HasCommandOutside, DeniesRequest, IsDenial}
use Rattle.grants.specs.declared.denial.Denial.{Denial}
use Rattle.grants.specs.declared.denial.Denial.TheVariants.{UnknownPerson, UnknownCeiling, NotAsker, HostOutside}
use Rattle.grants.specs.declared.denial.Denial.TheVariants.{RunasOutside, CommandOutside, WindowTooLong, WindowBackwards}
use Rattle.grants.proofs.Inclusion.{exact}
use Rattle.grants.proofs.Witnesses.{inside}
use Rattle.grants.proofs.Members.{each_passes, one_fails, one_passes, passes, member, no_member}

-- ---- denials by their numbers

abbrev denial_at : ℕ → Denial
denial_at n =
    cond (n == 1) UnknownPerson (cond (n == 2) UnknownCeiling (cond (n == 3) NotAsker (cond (n == 4) HostOutside
    (cond (n == 5) RunasOutside (cond (n == 6) CommandOutside (cond (n == 7) WindowTooLong WindowBackwards))))))

at_its_number : (d : Denial) → denial_at (denial_number d) ≡ d
at_its_number UnknownPerson = refl
at_its_number _ = refl

pub same_denial : (d e : Denial) → denial_number d ≡ denial_number e → d ≡ e
same_denial d e same = sym (at_its_number d) ∙ ap denial_at same ∙ at_its_number e

pub none_below_one : (d : Denial) → denial_number d < 1 → ⊥
none_below_one UnknownPerson l = omega arith
none_below_one _ l = omega arith

-- what holds for a denial, and for those with lower numbers, holds for all below the next number
below_next : (P : Denial → Type 0) (d : Denial) → ((e : Denial) → denial_number e < denial_number d → P e) → P d
    → (e : Denial) → denial_number e < denial_number d + 1 → P e
below_next P d below at_it e l =
    elim (cases_lt (denial_number e) (denial_number d)) as (λ _. P e) [
      | inl lower ↦ below e lower
      | inr more ↦ let same : denial_number d ≡ denial_number e = omega arith in subst P (same_denial d e same) at_it
    ]

-- ---- requests

module _ (f : RosterFields Cmnd) (r : RequestFields) where
  -- no denial below this number applies
  abbrev Clear : ℕ → Type 0
  Clear n = (d : Denial) → denial_number d < n → ¬ DeniesRequest f r d

  at_first : Clear 1
  at_first d l = absurd (none_below_one d l)

  not_under : (c : CeilingFields Cmnd) (P : CeilingFields Cmnd → Type 0) → ceiling_at f r.ceiling ≡ Some c → ¬ P c → ¬ UnderCeiling f r P
  not_under c P is not h = not (subst P (same_Some h.0 c (sym h.1 ∙ is)) h.2)

  pub unknown_person : has_person f r.by ≡ false → IsDenial f (Request r) UnknownPerson
  unknown_person e = record { applies = e; first = at_first }

  listed : has_person f r.by ≡ true → Clear 2
  listed e = below_next (λ d. ¬ DeniesRequest f r d) UnknownPerson at_first (λ h. both_ways (has_person f r.by) h e)

  pub unknown_ceiling : has_person f r.by ≡ true → ceiling_at f r.ceiling ≡ None → IsDenial f (Request r) UnknownCeiling
  unknown_ceiling e is = record { applies = is; first = listed e }

  module _ (c : CeilingFields Cmnd) where
    named : has_person f r.by ≡ true → ceiling_at f r.ceiling ≡ Some c → Clear 3
    named e is = below_next (λ d. ¬ DeniesRequest f r d) UnknownCeiling (listed e) (λ h. none-some c (sym h ∙ is))

    pub not_asker : has_person f r.by ≡ true → ceiling_at f r.ceiling ≡ Some c → holds f r.by c.ask r.at ≡ false → IsDenial f (Request r) NotAsker
    not_asker e is h = record { applies = (c, is, h); first = named e is }

    asks : MayAskUnder f r c → Clear 4
    asks m = below_next (λ d. ¬ DeniesRequest f r d) NotAsker (named m.listed m.ceiling_is)
        (not_under c (λ k. holds f r.by k.ask r.at ≡ false) m.ceiling_is (λ h. both_ways (holds f r.by c.ask r.at) h m.may_ask))

    abbrev HostsInside : Type 0
    HostsInside = (host : List ℕ) → Contains r.hosts host → Contains c.hosts host

    pub hosts_inside : list_all (is_among c.hosts) r.hosts ≡ true → HostsInside
    hosts_inside e host m = member c.hosts host (each_passes (is_among c.hosts) r.hosts e host m)

    pub host_outside : MayAskUnder f r c → list_all (is_among c.hosts) r.hosts ≡ false → IsDenial f (Request r) HostOutside
    host_outside m e =
        let one = one_fails (is_among c.hosts) r.hosts e in
        record { applies = (c, m.ceiling_is, (one.0, one.1, no_member c.hosts one.0 one.2)); first = asks m }

    on_hosts : MayAskUnder f r c → HostsInside → Clear 5
    on_hosts m inside = below_next (λ d. ¬ DeniesRequest f r d) HostOutside (asks m)
        (not_under c (HasHostOutside r) m.ceiling_is (λ h. h.2 (inside h.0 h.1)))

    pub target_outside : MayAskUnder f r c → list_all (is_among c.hosts) r.hosts ≡ true → is_among c.runas r.runas ≡ false → IsDenial f (Request r) RunasOutside
    target_outside m e t = record { applies = (c, m.ceiling_is, no_member c.runas r.runas t); first = on_hosts m (hosts_inside e) }

    as_target : MayAskUnder f r c → HostsInside → Contains c.runas r.runas → Clear 6
    as_target m inside target = below_next (λ d. ¬ DeniesRequest f r d) RunasOutside (on_hosts m inside)
        (not_under c (λ k. ¬ Contains k.runas r.runas) m.ceiling_is (λ h. h target))

    lies_inside : (k : Cmnd) → list_any (is_inside k) c.commands ≡ true → LiesInsideOne c.commands k
    lies_inside k e = let one = one_passes (is_inside k) c.commands e in (one.0, one.1, inside k one.0 one.2)

    lies_in_none : All IsLawful c.commands → (k : Cmnd) → IsLawful k → list_any (is_inside k) c.commands ≡ false → ¬ LiesInsideOne c.commands k
    lies_in_none lawful k hk e h =
        both_ways (list_any (is_inside k) c.commands) e
        (passes (is_inside k) c.commands h.0 h.1 ((exact k h.0 hk (All-contains IsLawful c.commands h.0 lawful h.1)).1 h.2))

    pub command_outside : MayAskUnder f r c → list_all (is_among c.hosts) r.hosts ≡ true → is_among c.runas r.runas ≡ true → All IsLawful r.cmnds
        → All IsLawful c.commands → list_all (λ k. list_any (is_inside k) c.commands) r.cmnds ≡ false → IsDenial f (Request r) CommandOutside
    command_outside m e t lawful lawful_ones outside =
        let one = one_fails (λ k. list_any (is_inside k) c.commands) r.cmnds outside in
        record {
          applies = (c, m.ceiling_is, (one.0, one.1, lies_in_none lawful_ones one.0 (All-contains IsLawful r.cmnds one.0 lawful one.1) one.2));
          first = as_target m (hosts_inside e) (member c.runas r.runas t);
        }

    pub within : list_all (is_among c.hosts) r.hosts ≡ true → is_among c.runas r.runas ≡ true
        → list_all (λ k. list_any (is_inside k) c.commands) r.cmnds ≡ true → IsWithin r c
    within e t commands = record {
      hosts = hosts_inside e;
      target = member c.runas r.runas t;
      commands = λ k m. lies_inside k (each_passes (λ x. list_any (is_inside x) c.commands) r.cmnds commands k m);
    }

    by_command : MayAskUnder f r c → IsWithin r c → Clear 7
    by_command m w = below_next (λ d. ¬ DeniesRequest f r d) CommandOutside (as_target m w.hosts w.target)
        (not_under c (HasCommandOutside r) m.ceiling_is (λ h. h.2 (w.commands h.0 h.1)))

    pub too_long : MayAskUnder f r c → IsWithin r c → r.from + c.longest < r.until → IsDenial f (Request r) WindowTooLong
    too_long m w l = record { applies = (c, m.ceiling_is, l); first = by_command m w }

    pub backwards : MayAskUnder f r c → IsWithin r c → ¬ (r.from + c.longest < r.until)
        → (r.from < r.at) ⊎ (r.until < r.from) → IsDenial f (Request r) WindowBackwards
    backwards m w short back = record {
      applies = back;
      first = below_next (λ d. ¬ DeniesRequest f r d) WindowTooLong (by_command m w)
          (not_under c (λ k. r.from + k.longest < r.until) m.ceiling_is short);
    }

    pub admitted : MayAskUnder f r c → IsWithin r c → ¬ (r.from + c.longest < r.until) → ¬ ((r.from < r.at) ⊎ (r.until < r.from)) → AdmitsRequest f r
    admitted m w short forward = record {
      ceiling = c;
      may_ask = m;
      within = w;
      in_time = record {
        short = omega (arith, short);
        ahead = let h : ¬ (r.from < r.at) = (λ l. forward (inl l)) in omega (arith, h);
        forward = let h : ¬ (r.until < r.from) = (λ l. forward (inr l)) in omega (arith, h);
      };
    }
