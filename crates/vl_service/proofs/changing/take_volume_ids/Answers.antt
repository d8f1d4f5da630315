use Rattle.std.proofs.Common.{sym, ap, ◌∙◌, refl}
use Rattle.std.specs.Option.{option_map}
use Rattle.vldb_records.specs.Changes.{after_set_next}
use Rattle.vl_service.proofs.Done.{volumes_done, volumes_refused}
use Rattle.vl_service.proofs.changing.take_volume_ids.Goals as goal

pub returns-in_default-clause-meant : goal.returns-in_default-clause-meant
returns-in_default-clause-meant g c =
    volumes_refused c.args.d.now.bytes c.next_volume.new.d.bytes c.in_ok-next.next c.args.bump _ c.in_ok-next.ensures.found
    (sym c.next_after.ensures ∙ c.in_default.is) refl
    c.next_volume.ensures.frame.looks.same.bytes

pub returns-clause-meant : goal.returns-clause-meant
returns-clause-meant g c =
    volumes_done c.args.d.now.bytes c.set_next_volume.new.d.bytes c.in_ok-next.next c.args.bump c.in-Some.after c.in_ok-end.end
    c.in_ok-next.ensures.found
    (sym c.next_after.ensures ∙ c.in-Some.is) c.in_ok-end.ensures.told
    (c.in_ok-set_next_volume.ensures.bytes ∙ ap (option_map (after_set_next c.in-Some.after)) c.next_volume.ensures.frame.looks.same.bytes)
