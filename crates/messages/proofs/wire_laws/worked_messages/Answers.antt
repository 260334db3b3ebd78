use Rattle.std.proofs.Common.{◌≡◌, [], ◌∷◌, length, refl, ap}
use Rattle.std.specs.Prelude.{codes}
use Rattle.std.specs.Fmt.{digits}
use Rattle.sudo_words.specs.Moment.{date_from_month, date_from_year, date_of}
use Rattle.messages.specs.Wire.{escaped, list_text, moment_text, quoted, rest_text, wire}
use Rattle.messages.specs.WorkedTexts.{ann_asks_for, bob_approves, id, ls}
use Rattle.messages.specs.declared.message.Message.TheVariants.{Request, Verdict}
use Rattle.messages.proofs.wire_laws.worked_messages.Goals as goal

approval : wire (Verdict bob_approves) ≡ codes "{\"at\":\"20260105083000Z\",\"by\":\"bob\",\"kind\":\"approve\",\"no\":7,\"of\":\"ann\"}"
unfolding moment_text quoted escaped digits date_of date_from_year date_from_month
approval = refl

request : wire (Request (ann_asks_for (ls ∷ [])))
    ≡ codes "{\"at\":\"20260105060000Z\",\"by\":\"ann\",\"ceiling\":\"db-root\",\"cmnds\":[\"/bin/ls\"],\"from\":\"20260105090000Z\",\"hosts\":[\"db1\"],\"kind\":\"request\",\"no\":7,\"runas\":\"root\",\"until\":\"20260105110000Z\"}"
unfolding moment_text quoted escaped list_text rest_text digits date_of date_from_year date_from_month
request = refl

two_commands : wire (Request (ann_asks_for (ls ∷ id ∷ [])))
    ≡ codes "{\"at\":\"20260105060000Z\",\"by\":\"ann\",\"ceiling\":\"db-root\",\"cmnds\":[\"/bin/ls\",\"/usr/bin/id\"],\"from\":\"20260105090000Z\",\"hosts\":[\"db1\"],\"kind\":\"request\",\"no\":7,\"runas\":\"root\",\"until\":\"20260105110000Z\"}"
unfolding moment_text quoted escaped list_text rest_text digits date_of date_from_year date_from_month
two_commands = refl

pub returns : goal.returns
returns c = record {
  approval = approval;
  bytes_of_approval = ap length approval;
  request = request;
  bytes_of_request = ap length request;
  two_commands = two_commands;
}
