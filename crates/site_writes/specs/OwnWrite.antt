-- What contracts see of a write in flight with the answer of its call.
use Rattle.std.specs.Prelude.{ℕ, List}
use Rattle.ubik_types.specs.declared.images.Change.{Change}
use Rattle.cell_model.specs.Node.{Flight}
use Rattle.ubik_write.specs.Flight.{FlightRecord}

pub record OwnRecord : Type 0 where
  -- the write as the rules have it
  pub flight : Flight
  -- what is kept of it: its versions, the text of its changes, and what they overwrote
  pub kept : FlightRecord

-- the write that is kept so, with its answer, and what no memory holds
abbrev pub own_write : FlightRecord → (answer call old_image : List ℕ) → List Change → OwnRecord
own_write kept answer call old_image changes = record {
  flight = record {
    id = kept.id;
    began = kept.began;
    call = call;
    answer = answer;
    old_image = old_image;
    changes = changes;
  };
  kept = kept;
}
