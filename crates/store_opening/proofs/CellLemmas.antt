-- A message is not both a verdict and a request; and answers that a call never gives.
use Rattle.std.proofs.Common.{◌≡◌, ◌≢◌, Result, Ok, Err, IfOk, MatchResult, Option, Some, None}
use Rattle.std.specs.Option.{IfNone}
use Rattle.messages.specs.Fields.{RequestFields, VerdictFields}
use Rattle.messages.specs.declared.message.Message.{Message}
use Rattle.messages.specs.declared.message.Message.TheVariants.{Request, Verdict}
use Rattle.store_tables.specs.declared.fault.Fault.{Fault}
use Rattle.store_tables.specs.declared.fault.Fault.TheVariants.{Stray}
use Rattle.store_opening.specs.private.Showing.{IsNoStray}

pub not_both : (m : Message) (v : VerdictFields) (q : RequestFields) → m ≡ Verdict v → m ≡ Request q → ⊥
not_both m v q a b = cc

pub if_none : {A P : Type 0} (o : Option A) → o ≡ None → IfNone o P → P
if_none (Some x) e h = absurd cc
if_none None e h = h

-- ---- an answer that is known

pub never_stray : {X : Type 0} (P : X → Type 0) (r : Result X Fault) → MatchResult r P IsNoStray → r ≢ Err Stray
never_stray P (Ok x) m e = absurd cc
never_stray P (Err f) m e = let same : f ≡ Stray = cc in m same

pub known_ok : {X : Type 0} (P Q : X → Type 0) (r : Result X Fault) → ((x : X) → P x → Q x) → MatchResult r P IsNoStray → IfOk r Q
known_ok P Q (Ok x) each m = each x m
known_ok P Q (Err f) each m = tt
