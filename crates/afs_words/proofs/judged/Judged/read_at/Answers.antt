use Rattle.std.proofs.Common.{◌≡◌, Some, length, map, refl, ap, ◌∙◌}
use Rattle.std.specs.Prelude.{slice_get}
use Rattle.std.proofs.lemmas.Option.{slice_get_read}
use Rattle.afs_words.proofs.Inside.{read_there, read_within}
use Rattle.afs_words.proofs.judged.Judged.read_at.Goals as goal

pub returns : goal.returns
returns c =
    let low = read_within c.args.self.now c.read.result.now c.args.place c.read.ensures c.requires in
    let at : slice_get c.read.result.now c.args.place ≡ Some c.index-read-place.result =
    slice_get_read c.read.result.now (length c.read.result.now) c.args.place c.index-read-place.result refl low c.index-read-place.is in
    ap (map Some) c.as_slice.ensures ∙ read_there c.args.self.now c.read.result.now c.args.place c.index-read-place.result c.read.ensures at
