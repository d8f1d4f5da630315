-- `lock`, `unlock`.
use Rattle.std.specs.Prelude.{ℕ, List, codes}
use Rattle.vl_calls.specs.declared.calls.VlCall.TheVariants as call
use Rattle.tool_base.specs.Course.{◌>>=◌, Course, gives}
use Rattle.vos_tool.specs.Asking.{asks_done}
use Rattle.vos_tool.specs.Texts.{volume_line}
use Rattle.vos_tool.specs.Volumes.{any_type, volume_id}
use Rattle.vos_tool.specs.declared.locks.TheConstants.{LOCK_SITES, WHOLE_LOCK}

abbrev pub sets_lock : ℕ → Course (Unit {0})
sets_lock id = asks_done (call.SetLock id any_type LOCK_SITES)

abbrev pub releases_lock : ℕ → Course (Unit {0})
releases_lock id = asks_done (call.ReleaseLock id any_type WHOLE_LOCK)

unfoldable pub lock_text : List ℕ → Course (List ℕ)
lock_text word = do
  id ← volume_id word
  done ← sets_lock id
  gives (volume_line (codes "Locked VLDB entry for volume ") word)

unfoldable pub unlock_text : List ℕ → Course (List ℕ)
unlock_text word = do
  id ← volume_id word
  done ← releases_lock id
  gives (volume_line (codes "Released lock on vldb entry for volume ") word)
