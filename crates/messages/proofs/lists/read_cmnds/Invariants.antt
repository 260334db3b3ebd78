use Rattle.std.proofs.Common.{◌≡◌, List, take, map}
use Rattle.std.specs.Prelude.{All}
use Rattle.json.specs.Value.{items_view}
use Rattle.sudo_words.specs.Command.{IsLawful, cmnd_text}
use Rattle.sudo_words.specs.declared.cmnd.Cmnd.{Cmnd}
use Rattle.messages.specs.private.Members.{text_items}
use Rattle.messages.proofs.lists.read_cmnds.Given as goal

-- what was read are lawful commands, of the first texts of the list, and where the whole list is the texts of lawful commands, its first ones
abbrev pub invariant-loop-item : goal.invariant-loop-item
invariant-loop-item l = record {
  found : All IsLawful l.cmnds.items;
  texts : items_view (take l.item-index l.items) ≡ text_items (map cmnd_text l.cmnds.items);
  only : (cs : List Cmnd) → All IsLawful cs → items_view l.items ≡ text_items (map cmnd_text cs) → l.cmnds.items ≡ take l.item-index cs;
}
