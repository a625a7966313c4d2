-- The verbs: the word of each, whether it stands behind UID, whether it is offered here, and the command that it is.
use Rattle.std.specs.Prelude.{ℕ, Bool, true, false, codes, List, [], ◌∷◌, Option, Some, None, if◌then◌else◌}
use Rattle.imap_grammar.specs.declared.command.Verb.{Verb}
use Rattle.imap_grammar.specs.declared.command.Verb.TheVariants.{Capability, Noop, Logout, Namespace, Idle, Login, Authenticate, StartTls, Select, Examine, List as ListNames, Status, Close, Unselect, Expunge, Fetch, Store, UidFetch, UidStore, UidExpunge, Append, Create, Delete, Rename, Subscribe, Unsubscribe, Copy, Move, Search, Enable, UidCopy, UidMove, UidSearch, Check, Lsub, Id}
use Rattle.imap_grammar.specs.declared.command.Command.{Command}
use Rattle.imap_grammar.specs.declared.command.Command.TheVariants as say

-- the verb's own word, behind UID where that stands before it
abbrev pub word_of : Verb → List ℕ
word_of Capability = codes "CAPABILITY"
word_of Noop = codes "NOOP"
word_of Logout = codes "LOGOUT"
word_of Namespace = codes "NAMESPACE"
word_of Idle = codes "IDLE"
word_of Login = codes "LOGIN"
word_of Authenticate = codes "AUTHENTICATE"
word_of StartTls = codes "STARTTLS"
word_of Select = codes "SELECT"
word_of Examine = codes "EXAMINE"
word_of ListNames = codes "LIST"
word_of Status = codes "STATUS"
word_of Close = codes "CLOSE"
word_of Unselect = codes "UNSELECT"
word_of Expunge = codes "EXPUNGE"
word_of Fetch = codes "FETCH"
word_of Store = codes "STORE"
word_of UidFetch = codes "FETCH"
word_of UidStore = codes "STORE"
word_of UidExpunge = codes "EXPUNGE"
word_of Append = codes "APPEND"
word_of Create = codes "CREATE"
word_of Delete = codes "DELETE"
word_of Rename = codes "RENAME"
word_of Subscribe = codes "SUBSCRIBE"
word_of Unsubscribe = codes "UNSUBSCRIBE"
word_of Copy = codes "COPY"
word_of Move = codes "MOVE"
word_of Search = codes "SEARCH"
word_of Enable = codes "ENABLE"
word_of UidCopy = codes "COPY"
word_of UidMove = codes "MOVE"
word_of UidSearch = codes "SEARCH"
word_of Check = codes "CHECK"
word_of Lsub = codes "LSUB"
word_of Id = codes "ID"

-- the verb is UID and a second word
abbrev pub stands_behind_uid : Verb → Bool
stands_behind_uid UidFetch = true
stands_behind_uid UidStore = true
stands_behind_uid UidExpunge = true
stands_behind_uid UidCopy = true
stands_behind_uid UidMove = true
stands_behind_uid UidSearch = true
stands_behind_uid _ = false

-- a verb of IMAP that this server doesn't offer
abbrev pub is_left_out : Verb → Bool
is_left_out Create = true
is_left_out Delete = true
is_left_out Rename = true
is_left_out _ = false

-- the verbs of one word that are offered
abbrev pub offered : List Verb
offered =
    Capability ∷ Noop ∷ Logout ∷ Namespace ∷ Idle ∷ Login ∷ Authenticate ∷ StartTls ∷ Select ∷ Examine
    ∷ ListNames ∷ Status ∷ Close ∷ Unselect ∷ Expunge ∷ Fetch ∷ Store ∷ Copy ∷ Move ∷ Append ∷ Check ∷ Lsub ∷ Subscribe ∷ Unsubscribe
    ∷ Search ∷ Enable ∷ Id ∷ []

-- those of one word that aren't
abbrev pub left_out : List Verb
left_out =
    Create ∷ Delete ∷ Rename ∷ []

-- those of UID and a second word
abbrev pub behind_uid : List Verb
behind_uid = UidFetch ∷ UidStore ∷ UidExpunge ∷ UidCopy ∷ UidMove ∷ UidSearch ∷ []

-- the command that a verb is with nothing after it
abbrev pub alone : Verb → Option Command
alone Capability = Some say.Capability
alone Noop = Some say.Noop
alone Logout = Some say.Logout
alone Namespace = Some say.Namespace
alone Idle = Some say.Idle
alone Close = Some say.Close
alone Unselect = Some say.Unselect
alone Expunge = Some say.Expunge
alone Check = Some say.Check
alone _ = None

-- the verb of COPY or MOVE, by UID or not
abbrev pub copy_verb : (by_uid moves : Bool) → Verb
copy_verb false false = Copy
copy_verb true false = UidCopy
copy_verb false true = Move
copy_verb true true = UidMove

-- the verb of a command
abbrev pub verb_of : Command → Verb
verb_of say.Capability = Capability
verb_of say.Noop = Noop
verb_of say.Logout = Logout
verb_of say.Namespace = Namespace
verb_of say.Idle = Idle
verb_of (say.Login user password) = Login
verb_of (say.Authenticate authenticate) = Authenticate
verb_of say.StartTls = StartTls
verb_of (say.Select name) = Select
verb_of (say.Examine name) = Examine
verb_of (say.List reference pattern) = ListNames
verb_of (say.Status name items) = Status
verb_of say.Close = Close
verb_of say.Unselect = Unselect
verb_of say.Expunge = Expunge
verb_of (say.UidExpunge set) = UidExpunge
verb_of (say.Fetch fetch) = if fetch.by_uid then UidFetch else Fetch
verb_of (say.Store store) = if store.by_uid then UidStore else Store
verb_of (say.Copy copy) = copy_verb copy.by_uid copy.moves
verb_of (say.Append append) = Append
verb_of say.Check = Check
verb_of (say.Lsub reference pattern) = Lsub
verb_of (say.Subscribe name) = Subscribe
verb_of (say.Unsubscribe name) = Unsubscribe
verb_of (say.Search search) = if search.by_uid then UidSearch else Search
verb_of say.Enable = Enable
verb_of say.Id = Id
