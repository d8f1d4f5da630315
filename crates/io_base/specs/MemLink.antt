-- What a link in memory answers.
use Rattle.std.specs.Prelude.{◌≡◌, ℕ, ◌==◌, Bool, List, [], Option, None, Some, slice_get, remove, position}
use Rattle.ubik_types.specs.declared.hosts.Host.{Host}
use Rattle.io_base.specs.declared.links.Answer.{Answer}
use Rattle.io_base.specs.declared.links.Answer.TheVariants.{Got, NotSent, NoAnswer, NoMemory}
use Rattle.io_base.specs.declared.links.Exchange.{Exchange}
use Rattle.io_base.specs.declared.memory_links.MemAnswer.{MemAnswer}
use Rattle.io_base.specs.declared.memory_links.MemLink.{MemLink}

-- the items that were not taken yet
abbrev pub items_of : MemLink → List MemAnswer
items_of link = link.items.items

-- what was exchanged
abbrev pub exchanges_of : MemLink → List Exchange
exchanges_of link = link.exchanges.items

-- whether an item is for a host
abbrev pub is_for : Host → MemAnswer → Bool
is_for host item = item.host.0 == host.0

-- what an item answers; nothing is sent where there is none
abbrev pub answer_of : Option MemAnswer → Answer
answer_of None = NotSent
answer_of (Some item) = item.answer

-- the bytes that come back with an answer
abbrev pub reply_at : Answer → List ℕ → List ℕ
reply_at Got reply = reply
reply_at NotSent reply = []
reply_at NoAnswer reply = []
reply_at NoMemory reply = []

abbrev pub reply_of : Option MemAnswer → List ℕ
reply_of None = []
reply_of (Some item) = reply_at item.answer item.reply

-- the place of the first item for a host
abbrev pub place_for : Host → List MemAnswer → Option ℕ
place_for host items = position (is_for host) items

-- the item at a place
abbrev pub item_at : List MemAnswer → Option ℕ → Option MemAnswer
item_at items None = None
item_at items (Some place) = slice_get items place

-- the items without the one at a place
abbrev pub without : List MemAnswer → Option ℕ → List MemAnswer
without items None = items
without items (Some place) = remove items place

-- the item that answers the next ask of a host
abbrev pub item_for : Host → List MemAnswer → Option MemAnswer
item_for host items = item_at items (place_for host items)

-- The first item for the host was taken, and gave this answer with this reply.
pub record Takes (host : Host) (before after : List MemAnswer) (answer : Answer) (reply : List ℕ) : Type 0 where
  pub answered : answer ≡ answer_of (item_for host before)
  pub replied : reply ≡ reply_of (item_for host before)
  pub left : after ≡ without before (place_for host before)

-- Nothing was taken, for want of memory.
pub record Lacks (before after : List MemAnswer) (answer : Answer) : Type 0 where
  pub answered : answer ≡ NoMemory
  pub left : after ≡ before
