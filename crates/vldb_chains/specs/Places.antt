-- How the words of the chains stand in the blocks (own).
use Rattle.db_chains.specs.declared.free_blocks.FreeBlocks.{FreeBlocks}
use Rattle.db_chains.specs.declared.links.Links.{Links}

-- chains of names: the number of a block
abbrev pub name_links : Links
name_links = record { head = 3132; mark = 1; next = 36; step = 1; kinds = 1 }

-- chains of ids: four times the number of a block, and 0 for its read-write, 1 for its read-only and 2 for its backup id
abbrev pub id_links : Links
id_links = record { head = 3132; mark = 1; next = 40; step = 4; kinds = 3 }

abbrev pub free_blocks : FreeBlocks
free_blocks = record { head = 3132; first = 16; count = 12; mark = 0; next = 4 }
