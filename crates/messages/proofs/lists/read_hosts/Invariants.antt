use Rattle.std.proofs.Common.{◌≡◌, ℕ, List, true, take}
use Rattle.std.specs.Prelude.{All}
use Rattle.json.specs.Value.{items_view}
use Rattle.sudo_words.specs.Word.{is_host_name}
use Rattle.messages.specs.private.Members.{text_items}
use Rattle.messages.proofs.lists.read_hosts.Given as goal

-- what was read are hosts, the first texts of the list, and where the whole list is the texts of hosts, its first ones
abbrev pub invariant-loop-item : goal.invariant-loop-item
invariant-loop-item l = record {
  found : All (λ h. is_host_name h ≡ true) l.hosts.items;
  texts : items_view (take l.item-index l.items) ≡ text_items l.hosts.items;
  only : (hs : List (List ℕ)) → All (λ h. is_host_name h ≡ true) hs → items_view l.items ≡ text_items hs → l.hosts.items ≡ take l.item-index hs;
}
