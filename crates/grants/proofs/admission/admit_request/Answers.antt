use Rattle.std.proofs.Common.{sym}
use Rattle.std.proofs.lemmas.Bool.{iff_false}
use Rattle.grants.specs.Admission.{IsWithin}
use Rattle.grants.proofs.AdmissionLemmas.{host_outside, target_outside, command_outside, within, too_long, backwards, admitted}
use Rattle.grants.proofs.admission.admit_request.Goals as goal

pub returns-then-not-hosts_inside : goal.returns-then-not-hosts_inside
returns-then-not-hosts_inside c =
    host_outside c.args.roster.now.says c.args.request.now c.in_ok-ceiling.ceiling.now c.in_ok-ceiling.ensures (sym c.if-not-hosts_inside.ensures)

pub returns-then-not-target_inside : goal.returns-then-not-target_inside
returns-then-not-target_inside c =
    target_outside c.args.roster.now.says c.args.request.now c.in_ok-ceiling.ceiling.now c.in_ok-ceiling.ensures (sym c.if-not-hosts_inside.ensures)
    (sym c.if-not-target_inside.ensures)

pub returns-then-not-commands_inside : goal.returns-then-not-commands_inside
returns-then-not-commands_inside c =
    command_outside c.args.roster.now.says c.args.request.now c.in_ok-ceiling.ceiling.now c.in_ok-ceiling.ensures (sym c.if-not-hosts_inside.ensures)
    (sym c.if-not-target_inside.ensures) c.commands_inside.ensures.lawful c.commands_inside.ensures.lawful_ceiling (sym c.if-not-commands_inside.ensures.value)

pub returns-then-is_too_long : goal.returns-then-is_too_long
returns-then-is_too_long c =
    let inside : IsWithin c.args.request.now c.in_ok-ceiling.ceiling.now =
    within c.args.roster.now.says c.args.request.now c.in_ok-ceiling.ceiling.now (sym c.if-not-hosts_inside.ensures) (sym c.if-not-target_inside.ensures)
    (sym c.if-not-commands_inside.ensures.value) in
    too_long c.args.roster.now.says c.args.request.now c.in_ok-ceiling.ceiling.now c.in_ok-ceiling.ensures inside
    (c.is_too_long.ensures.0 c.if-is_too_long.true)

pub returns-then-is_backwards : goal.returns-then-is_backwards
returns-then-is_backwards c =
    let inside : IsWithin c.args.request.now c.in_ok-ceiling.ceiling.now =
    within c.args.roster.now.says c.args.request.now c.in_ok-ceiling.ceiling.now (sym c.if-not-hosts_inside.ensures) (sym c.if-not-target_inside.ensures)
    (sym c.if-not-commands_inside.ensures.value) in
    backwards c.args.roster.now.says c.args.request.now c.in_ok-ceiling.ceiling.now c.in_ok-ceiling.ensures inside
    (iff_false c.is_too_long.ensures c.if-is_too_long.false) (c.is_backwards.ensures.0 c.if-is_backwards.true)

pub returns : goal.returns
returns c =
    let inside : IsWithin c.args.request.now c.in_ok-ceiling.ceiling.now =
    within c.args.roster.now.says c.args.request.now c.in_ok-ceiling.ceiling.now (sym c.if-not-hosts_inside.ensures) (sym c.if-not-target_inside.ensures)
    (sym c.if-not-commands_inside.ensures.value) in
    admitted c.args.roster.now.says c.args.request.now c.in_ok-ceiling.ceiling.now c.in_ok-ceiling.ensures inside
    (iff_false c.is_too_long.ensures c.if-is_too_long.false) (iff_false c.is_backwards.ensures c.if-is_backwards.false)
