use Rattle.std.proofs.Common.{◌-◌, refl}
use Rattle.std.proofs.lemmas.Int.{to_z-of_z}
use Rattle.prdb_layout.specs.Records.{has_id}
use Rattle.prdb_finds.specs.Keys.{id_chain}
use Rattle.prdb_finds.specs.Places.{id_links}
use Rattle.prdb_finds.proofs.Ended.{looks_well, read_none}
use Rattle.prdb_members.proofs.Walked.{block_found, number_some, number_within, some_number}
use Rattle.prdb_members.proofs.blocks.find_block.Goals as goal

pub returns-in_default-clause-found : goal.returns-in_default-clause-found
returns-in_default-clause-found g c =
    let fits = c.ranges.id in
    let raw = c.in_ok-link.ensures.found in
    read_none c.args.d.now.bytes id_links (λ w block. has_id c.args.id block) (id_chain c.args.id) c.in_ok-link.field-0 c.in_default.is
    (simp to_z-of_z at raw)

pub returns-in_default-clause-frame : goal.returns-in_default-clause-frame
returns-in_default-clause-frame g c = looks_well g.I.ImageRead c.args.d.now c.find_link.new.d _ _ c.find_link.ensures.frame.looks (λ e. cc)

pub overflow_sub-number : goal.overflow_sub-number
overflow_sub-number g c =
    number_some c.args.d.now.len c.in-Some.link.word
    (some_number c.in_ok-link.field-0 c.in-Some.link c.args.d.now.len c.in-Some.is c.in_ok-link.ensures.within)

pub returns-clause-found : goal.returns-clause-found
returns-clause-found g c =
    let fits = c.ranges.id in
    let raw = c.in_ok-link.ensures.exact in
    block_found c.args.d.now.bytes c.args.id c.in_ok-link.field-0 c.in-Some.link (c.in-Some.link.word - 1) c.in-Some.is refl
    (simp to_z-of_z at raw)

pub returns-clause-within : goal.returns-clause-within
returns-clause-within g c =
    number_within c.args.d.now.len c.in-Some.link.word (c.in-Some.link.word - 1)
    (some_number c.in_ok-link.field-0 c.in-Some.link c.args.d.now.len c.in-Some.is c.in_ok-link.ensures.within) refl

pub returns-clause-frame : goal.returns-clause-frame
returns-clause-frame g c = looks_well g.I.ImageRead c.args.d.now c.find_link.new.d _ _ c.find_link.ensures.frame.looks (λ e. cc)
