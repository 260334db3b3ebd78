use Rattle.std.proofs.Common.{◌∙◌, string_bytes}
use Rattle.messages.proofs.PlainTexts.{request_parts}
use Rattle.messages.proofs.write.push_request.Goals as goal

pub returns : goal.returns
returns c =
    c.in_ok-push_rest.ensures ∙ request_parts (string_bytes c.args.out.now) (string_bytes c.push_asked.new.out)
    (string_bytes c.push_lists.new.out) c.args.r.now c.in_ok-push_asked.ensures c.in_ok-push_lists.ensures
