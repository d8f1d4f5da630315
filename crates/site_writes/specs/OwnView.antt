-- How what the code keeps stands for a write in flight.
use Rattle.std.specs.Prelude.{◌≡◌, length}
use Rattle.xdr_base.specs.ChangeText.{text_of}
use Rattle.site_writes.specs.declared.own_writes.OwnWrite.TheInside.{Inside}
use Rattle.site_writes.specs.OwnWrite.{OwnRecord, own_write}

abbrev pub own_of : Inside → OwnRecord
own_of w = own_write w.flight w.answer w.call.value w.old_image.value w.changes.value

-- the text is that of the changes, and the length that of the image before them
pub record IsOfItsChanges (w : Inside) : Type 0 where
  pub text : w.flight.text ≡ text_of w.changes.value
  pub len : w.flight.old_len ≡ length w.old_image.value
