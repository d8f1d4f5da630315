use Rattle.std.proofs.Common.{◌≡◌, length, ap, arith, length-take}
use Rattle.incoming_file.proofs.reads.put_label.Goals as goal

pub copy_from_slice-requires : goal.copy_from_slice-requires
copy_from_slice-requires c =
    let is : length c.label_bytes.result ≡ 64 = ap length c.label_bytes.ensures in
    let long = c.requires in
    omega (arith, is, long, length-take 64 c.args.text.now)
