use Rattle.std.proofs.Common.{◌∙◌}
use Rattle.relay_http.proofs.ReceivingLemmas.{failed_read}
use Rattle.relay_http.proofs.StepLemmas.{came_asks, came_count, came_socket, never_starved, waits_count}
use Rattle.relay_http.proofs.serving.receive_whole.Goals as goal

pub returns-in-Ok-Came-clause-asks : goal.returns-in-Ok-Came-clause-asks
returns-in-Ok-Came-clause-asks g c =
    came_asks (g.R.Read.remaining c.args.reader.now.inner) (g.R.Read.remaining c.receive.new.reader.inner) c.args.receiving.come.bytes
    c.in-Ok-Came.field-0 _ c.in-Ok-Came.field-0-is c.requires.empty c.in-Ok-Came.ensures.reception

pub returns-in-Ok-Came-clause-socket : goal.returns-in-Ok-Came-clause-socket
returns-in-Ok-Came-clause-socket g c =
    came_socket c.args.receiving.come.offered c.in-Ok-Came.field-0 _ c.in-Ok-Came.field-0-is c.in-Ok-Came.ensures.socket

pub returns-in-Ok-Came-clause-counted : goal.returns-in-Ok-Came-clause-counted
returns-in-Ok-Came-clause-counted g c =
    c.in-Ok-Came.ensures.counted ∙ came_count c.in-Ok-Came.field-0 _ c.args.reader.now.failures c.in-Ok-Came.field-0-is

pub returns-in-Ok-Waits-clause-counted : goal.returns-in-Ok-Waits-clause-counted
returns-in-Ok-Waits-clause-counted g c =
    c.in-Ok-Waits.ensures.counted ∙ waits_count c.in-Ok-Waits.field-0 _ c.args.reader.now.failures c.in-Ok-Waits.field-0-is

pub returns-in-Ok-Starved-clause-counted : goal.returns-in-Ok-Starved-clause-counted
returns-in-Ok-Starved-clause-counted g c =
    absurd (never_starved c.in-Ok-Starved.field-0 _ c.in-Ok-Starved.field-0-is (c.in-Ok-Starved.ensures.room c.requires.room))

pub returns-clause-counted : goal.returns-clause-counted
returns-clause-counted g c =
    c.in-Err.ensures.counted
    ∙ failed_read (g.R.Read.remaining c.args.reader.now.inner) (g.R.Read.remaining c.receive.new.reader.inner) c.args.receiving.come.bytes
    c.in-Err.field-0 c.args.reader.now.failures c.in-Err.ensures.reception (c.in-Err.ensures.room c.requires.room)
