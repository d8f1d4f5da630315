-- What waits to be sent over a connection.
use Rattle.std.specs.Prelude.{◌≡◌, ℕ, ◌+◌, ◌<◌, ◌≤◌, List, ◌++◌, drop, Option, vec_len, length}
use Rattle.std.specs.List.{flat_map}
use Rattle.std.specs.VecDeque.{deque_len}
use Rattle.std.specs.Io.KnownBytes.{Appends}
use Rattle.tcp_net.specs.declared.queues.Queue.{Queue}

-- the bytes that were not sent, in their order
abbrev pub unsent : Queue → List ℕ
unsent queue = drop queue.sent queue.begun.items ++ flat_map (λ f. f.items) queue.behind.items

-- A frame of this length finds room, in frames and in bytes.
pub record HasRoom (queue : Queue) (len : ℕ) : Type 0 where
  pub frames : deque_len queue.behind + 1 < queue.most_frames
  pub bytes : vec_len queue.begun + queue.bytes_behind + len ≤ queue.most_bytes

-- A writer took some bytes off the front.
abbrev pub Moves : Option (List ℕ) → Option (List ℕ) → List ℕ → List ℕ → Type 0
Moves before after waited waits =
    (taken : List ℕ) × Appends before after taken × (waited ≡ taken ++ waits)
