use Rattle.disk_base.proofs.Runs.{reads_as}
use Rattle.ubik_store.proofs.ReadSound.{sound_read}
use Rattle.ubik_store.proofs.stores.Store.read.Goals as goal

pub returns-in-Ok-clause-sound : goal.returns-in-Ok-clause-sound
returns-in-Ok-clause-sound g c =
    sound_read _ c.args.self.now c.read_range.new.disk c.read_range.new.self c.requires.sound c.if-self.false c.in-Ok.ensures.same
    (c.in-Ok.ensures.agrees (λ failed. absurd cc)) (reads_as (λ failed. absurd cc) (λ none. absurd none) c.in-Ok.ensures.reads)
