-- What each operation does, in a sentence (own).
use Rattle.std.specs.Prelude.{ℕ, List, codes}
use Rattle.afs_words.specs.declared.tables.Tool.{Tool}
use Rattle.afs_words.specs.declared.tables.Tool.TheVariants.{Vos, Pts}
use Rattle.afs_words.specs.declared.tables.Operation.{Operation}
use Rattle.afs_words.specs.declared.tables.Operation.TheVariants.{AddEntry, ListVldb, Lock, Unlock, UnlockVldb, DelEntry, AddSite, RemSite, ChangeLoc, ListAddrs, ChangeAddr, CreateUser, CreateGroup, Delete, Rename, Chown, AddUser, RemoveUser, Membership, Examine, ListOwned, ListEntries, ListMax, SetMax, SetFields}

-- the word by which a command is called
abbrev pub tool_name : Tool → List ℕ
tool_name Vos = codes "vos"
tool_name Pts = codes "pts"

-- what an operation does
abbrev pub sentence_of : Operation → List ℕ
sentence_of AddEntry = codes "make the entry of a volume"
sentence_of ListVldb = codes "list the entries of volumes"
sentence_of Lock = codes "lock the entry of a volume"
sentence_of Unlock = codes "release the lock on the entry of a volume"
sentence_of UnlockVldb = codes "release the locks on the entries of a server, or on all"
sentence_of DelEntry = codes "delete the entries of volumes"
sentence_of AddSite = codes "add a read-only site to the entry of a volume"
sentence_of RemSite = codes "take a read-only site out of the entry of a volume"
sentence_of ChangeLoc = codes "set the read-write site in the entry of a volume"
sentence_of ListAddrs = codes "list the addresses of all file servers"
sentence_of ChangeAddr = codes "change the address of a file server, or remove it"
sentence_of CreateUser = codes "make users"
sentence_of CreateGroup = codes "make groups"
sentence_of Delete = codes "delete users and groups"
sentence_of Rename = codes "give a user or group another name"
sentence_of Chown = codes "give a group another owner"
sentence_of AddUser = codes "make users members of groups"
sentence_of RemoveUser = codes "take users out of groups"
sentence_of Membership = codes "list the members of groups, or the groups of users"
sentence_of Examine = codes "show the entries of users and groups"
sentence_of ListOwned = codes "list the groups that users or groups own"
sentence_of ListEntries = codes "list all users, or all groups"
sentence_of ListMax = codes "show the highest ids of users and groups"
sentence_of SetMax = codes "set the highest ids of users and groups"
sentence_of SetFields = codes "set the access and the group quota of users and groups"
