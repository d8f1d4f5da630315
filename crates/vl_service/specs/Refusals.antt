-- The numbers of the refusals (vlserver's names, VL_..; the numbers are own).
use Rattle.std.specs.Prelude.{ℕ}

abbrev pub id_exists : ℕ
id_exists = 363520

abbrev pub name_exists : ℕ
name_exists = 363522

abbrev pub no_entry : ℕ
no_entry = 363524

abbrev pub bad_name : ℕ
bad_name = 363527

abbrev pub bad_volume_type : ℕ
bad_volume_type = 363529

abbrev pub bad_server : ℕ
bad_server = 363530

abbrev pub bad_partition : ℕ
bad_partition = 363531

abbrev pub replicas_full : ℕ
replicas_full = 363532

abbrev pub no_replica : ℕ
no_replica = 363533

abbrev pub repeated_replica : ℕ
repeated_replica = 363534

abbrev pub size_exceeded : ℕ
size_exceeded = 363537

abbrev pub bad_entry : ℕ
bad_entry = 363538

abbrev pub bad_bump : ℕ
bad_bump = 363539

abbrev pub entry_locked : ℕ
entry_locked = 363541

abbrev pub bad_operation : ℕ
bad_operation = 363542

abbrev pub bad_release : ℕ
bad_release = 363543
