use Rattle.prdb_members.proofs.Grown.{grows_join, grows_move, grows_part, grows_parts}
use Rattle.prdb_members.proofs.laws.law_no_change_shortens.Goals as goal

pub returns : goal.returns
returns c = record { join = grows_join; part = grows_part; parts = grows_parts; move_id = grows_move }
