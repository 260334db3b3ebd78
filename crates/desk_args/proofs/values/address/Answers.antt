use Rattle.std.proofs.Common.{◌≡◌, subst}
use Rattle.std.proofs.lemmas.Result.{IfErr-weaker, IfOk-weaker}
use Rattle.clap.specs.Words.{Text, found_of, rows_of}
use Rattle.desk_args.specs.CommandLine.{HasAddress, HasBadAddress, SaysAddress, SaysNoAddress}
use Rattle.desk_args.specs.declared.fault.JobFault.{JobFault}
use Rattle.desk_args.specs.declared.fault.JobFault.TheVariants.{BadWord}
use Rattle.desk_args.proofs.values.address.Goals as goal

pub returns-clause-found : goal.returns-clause-found
returns-clause-found c =
    IfOk-weaker c.read_address.result (SaysAddress c.value.result.now) (HasAddress c.args.id.now (rows_of (found_of c.args.matches.now)))
    (λ addr says. (c.value.result.now, c.value.ensures, says)) c.read_address.ensures.found

pub returns-clause-only : goal.returns-clause-only
returns-clause-only c = λ addr has.
    let same : has.0 ≡ c.value.result.now = cc (has.1, c.value.ensures) in
    c.read_address.ensures.only addr (subst (λ (text : Text). SaysAddress text addr) same has.2)

pub returns-clause-word : goal.returns-clause-word
returns-clause-word c =
    IfErr-weaker c.read_address.result (λ (e : JobFault). e ≡ BadWord → SaysNoAddress c.value.result.now)
    (λ (e : JobFault). e ≡ BadWord → HasBadAddress c.args.id.now (rows_of (found_of c.args.matches.now)))
    (λ e none is. record { text = c.value.result.now; value = c.value.ensures; bad = none is }) c.read_address.ensures.word
