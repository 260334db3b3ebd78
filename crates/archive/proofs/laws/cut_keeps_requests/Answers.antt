use Rattle.std.proofs.Common.{◌++◌}
use Rattle.std.proofs.lemmas.List.Elements.{Contains-append_left}
use Rattle.messages.specs.declared.message.Message.TheVariants.{Request}
use Rattle.archive.proofs.Cuts.{about_still, asked_back, asked_to, ended_before, same_disputes, same_nobody}
use Rattle.archive.proofs.laws.cut_keeps_requests.Goals as goal

pub returns-clause-requests : goal.returns-clause-requests
returns-clause-requests c = λ set kept moment q cut. (asked_to set kept moment cut q, asked_back set kept moment cut q)

pub returns-clause-messages : goal.returns-clause-messages
returns-clause-messages c = λ set kept later moment m cut still. about_still set kept moment cut later m still

pub returns-clause-disputed : goal.returns-clause-disputed
returns-clause-disputed c = λ set kept later moment name cut. same_disputes set kept moment cut later name

pub returns-clause-nobody : goal.returns-clause-nobody
returns-clause-nobody c = λ set kept later moment name cut. same_nobody set kept moment cut later name

pub returns-clause-ended : goal.returns-clause-ended
returns-clause-ended c = λ f set later moment at q ended from w.
    ended_before f set (set ++ later) moment at q (λ p. Contains-append_left set later (Request p)) ended from w
