use Rattle.std.proofs.Common.{◌≡◌, rules}
use Rattle.incoming_file.proofs.Reading.{finds_open}
use Rattle.incoming_file.proofs.reads.read_incoming.Goals as goal

pub returns-in-Some-clause-finds : goal.returns-in-Some-clause-finds
returns-in-Some-clause-finds g c =
    let one : g.D.Disk.files c.incoming_len.new.disk ≡ g.D.Disk.files c.args.disk.now = search rules in
    let two : g.D.Disk.files c.incoming_head.new.disk ≡ g.D.Disk.files c.incoming_len.new.disk = search rules in
    let three : g.D.Disk.files c.incoming_text.new.disk ≡ g.D.Disk.files c.incoming_head.new.disk = search rules in
    record {
      is_text = c.in_ok-text.ensures.text;
      is_open =
          finds_open _ _ _ _ c.in-Some.version c.in_ok-len.len c.in_ok-head.head c.in_ok-text.text one two three c.in_ok-len.ensures.len
          c.in_ok-head.ensures.head c.in-Some.ensures.open
          c.in_ok-text.ensures.image;
    }
