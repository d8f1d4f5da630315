-- What `pts` does (the manual pages of pts, as far as it is built here; the calls and their order are own).
use Rattle.std.specs.Prelude.{ℕ, ℤ, pos, negsuc, zero, suc, nat_lt, Bool, true, false, if◌then◌else◌, List, [], ◌∷◌, ◌++◌, length, codes, Option, Some, None}
use Rattle.std.specs.Ordering.{int_eq}
use Rattle.afs_words.specs.Command.{Command}
use Rattle.pt_calls.specs.declared.answers.PtEntry.{PtEntry}
use Rattle.pt_calls.specs.declared.calls.PtCall.{PtCall}
use Rattle.pt_calls.specs.declared.calls.PtCall.TheVariants as call
use Rattle.pt_calls.specs.declared.limits.TheConstants.{MAX_PAGE}
use Rattle.tool_base.specs.Course.{◌>>=◌, Course, gives, says}
use Rattle.pts_tool.specs.Answers.{done_in, entry_in, id_in, ids_in, maxima_in, page_in}
use Rattle.pts_tool.specs.Asking.{asks}
use Rattle.pts_tool.specs.Names.{owner_id, the_id, the_names}
use Rattle.pts_tool.specs.Pages.{last_id}
use Rattle.pts_tool.specs.Plans.{tasks_of}
use Rattle.pts_tool.specs.Texts.{entry_text, head_row, made_text, maxima_text, members_line, names_text, owned_line, rows}
use Rattle.pts_tool.specs.declared.listing.TheConstants.{MOST_PAGES}
use Rattle.pts_tool.specs.declared.tasks.Task.{Task}
use Rattle.pts_tool.specs.declared.tasks.Task.TheVariants as task

-- a call that tells nothing but that it took place, of which nothing is written
unfoldable pub does : PtCall → Course (List ℕ)
does call = asks done_in call >>= λ done. gives []

-- an entry is made with the next id, or with this one
abbrev pub kind_of : Bool → ℕ
kind_of is_group = if is_group then 2 else 0

unfoldable pub next_id : List ℕ → Bool → ℤ → Course ℤ
next_id name is_group owner = asks id_in (call.NewEntry name (kind_of is_group) owner)

unfoldable pub given_id : List ℕ → ℤ → ℤ → Course ℤ
given_id name owner id = asks done_in (call.INewEntry name id owner) >>= λ done. gives id

abbrev pub new_id : List ℕ → Bool → ℤ → Option ℤ → Course ℤ
new_id name is_group owner None = next_id name is_group owner
new_id name is_group owner (Some id) = given_id name owner id

unfoldable pub creates : List ℕ → Bool → Option (List ℕ) → Option ℤ → Course (List ℕ)
creates name is_group owner id =
    owner_id owner >>= λ by. new_id name is_group by id >>= λ found. gives (made_text is_group name found)

unfoldable pub deletes : List ℕ → Course (List ℕ)
deletes entry = the_id entry >>= λ id. does (call.Delete id)

-- another name, or another owner
unfoldable pub changes : List ℕ → List ℕ → Option (List ℕ) → Course (List ℕ)
changes entry name owner = the_id entry >>= λ id. owner_id owner >>= λ by. does (call.ChangeEntry id name by (pos 0))

-- a user is put into a group, or taken out of it
abbrev pub member_call : Bool → ℤ → ℤ → PtCall
member_call true user group = call.AddToGroup user group
member_call false user group = call.RemoveFromGroup user group

unfoldable pub moves : List ℕ → List ℕ → Bool → Course (List ℕ)
moves user group adds = the_id user >>= λ member. the_id group >>= λ of. does (member_call adds member of)

-- the names of the entries that a call lists, behind a line
unfoldable pub lists_names : List ℕ → PtCall → Course (List ℕ)
lists_names head call = asks ids_in call >>= λ ids. the_names ids >>= λ names. gives (head ++ names_text names)

-- the members of a group, or the groups of a user
unfoldable pub lists_members : List ℕ → Course (List ℕ)
lists_members entry =
    the_id entry >>= λ id. asks entry_in (call.ListEntry id)
    >>= λ found. lists_names (members_line found.name found.id) (call.ListElements id)

-- the groups that an entry owns; nobody's are listed under the id 0, which no entry has
unfoldable pub found_line : ℤ → Course (List ℕ)
found_line id = asks entry_in (call.ListEntry id) >>= λ found. gives (owned_line found.name found.id)

unfoldable pub owner_line : ℤ → Course (List ℕ)
owner_line id = if int_eq id (pos 0) then gives (owned_line (codes "0") (pos 0)) else found_line id

unfoldable pub lists_owned : List ℕ → Course (List ℕ)
lists_owned entry = the_id entry >>= λ id. owner_line id >>= λ head. lists_names head (call.ListOwned id)

unfoldable pub examines : List ℕ → Course (List ℕ)
examines entry =
    the_id entry >>= λ id. asks entry_in (call.ListEntry id)
    >>= λ found. the_names (found.owner ∷ found.creator ∷ []) >>= λ names. gives (entry_text found names)

-- pages of entries above an id, until one is not full, in at most so many calls; their rows stand behind a text
unfoldable pub lists_pages : ℕ → ℕ → ℤ → List ℕ → Course (List ℕ)
lists_pages zero kinds after text = gives text
lists_pages (suc count) kinds after text =
    asks page_in (call.ListEntries kinds after) >>= λ page.
    if nat_lt (length page) MAX_PAGE then gives (text ++ rows page) else lists_pages count kinds (last_id after page) (text ++ rows page)

-- ids ascend, so that no more pages than these are full
unfoldable pub lists_entries : ℕ → Course (List ℕ)
lists_entries kinds = lists_pages MOST_PAGES kinds (negsuc 2147483647) head_row

unfoldable pub lists_maxima : Course (List ℕ)
lists_maxima = asks maxima_in call.ListMax >>= λ maxima. gives (maxima_text maxima)

unfoldable pub sets_fields : List ℕ → ℕ → ℕ → ℤ → Course (List ℕ)
sets_fields entry mask flags quota = the_id entry >>= λ id. does (call.SetFields id mask flags quota)

-- one item: its calls, and then its text
abbrev pub task_course : Task → Course (List ℕ)
task_course (task.Create name is_group owner id) = creates name is_group owner id
task_course (task.Delete entry) = deletes entry
task_course (task.Change entry name owner) = changes entry name owner
task_course (task.Member user group adds) = moves user group adds
task_course (task.Membership entry) = lists_members entry
task_course (task.Examine entry) = examines entry
task_course (task.ListOwned entry) = lists_owned entry
task_course (task.ListEntries kinds) = lists_entries kinds
task_course task.ListMax = lists_maxima
task_course (task.SetMax id is_group) = does (call.SetMax id is_group)
task_course (task.SetFields entry mask flags quota) = sets_fields entry mask flags quota

-- item by item, each with its text
abbrev pub works : List Task → Course (Unit {0})
works [] = gives tt
works (first ∷ others) = task_course first >>= λ text. says text >>= λ said. works others

abbrev pub pts_course : Command → Course (Unit {0})
pts_course command = works (tasks_of command)
