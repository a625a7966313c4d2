-- The lines of the users of some last mailboxes, the ports of one user more, and what a server may say in any case.
use Rattle.std.proofs.Common.{◌≡◌, ◌≢◌, ◌∙◌, ℕ, zero, suc, ◌+◌, ◌<◌, Bool, true, false, if◌then◌else◌, List, [], ◌∷◌, ◌++◌, All, length, drop, Option, Some, None, ap, sym, refl, subst, lit≤, arith}
use Rattle.std.specs.Prelude.{IfSome, replicate, slice_get}
use Rattle.std.specs.Io.KnownBytes.{Appends}
use Rattle.std.proofs.lemmas.List.Elements.{All-append, All-cons, All-nil}
use Rattle.std.proofs.lemmas.Option.{slice_get-get_or}
use Rattle.envelope.specs.Names.{Home}
use Rattle.house_shared.specs.Users.{is_inbox}
use Rattle.settings.specs.Settings.{IsFrom, directory_for}
use Rattle.settings.specs.declared.config.Config.{Config}
use Rattle.serving.specs.Announcing.{AreUserPorts, HasBegun, IsAnnouncement, IsPageFor, IsPortFor, announcement, imap_lines, ports_from, users_of}
use Rattle.settings.specs.declared.asking.Uidvalidity.{Uidvalidity}

-- ---- lines

same_home : (x h : Home) → ◌≡◌ {A = Option Home} (Some x) (Some h) → x ≡ h
same_home x h e = cc

none_there : (h : Home) → ◌≡◌ {A = Option Home} None (Some h) → ⊥
none_there h e = cc

one_first : (b : Bool) (u : List ℕ) (rest : List (List ℕ)) → (if b then u ∷ rest else rest) ≡ (if b then u ∷ [] else []) ++ rest
one_first true u rest = refl
one_first false u rest = refl

users_at : (homes : List Home) (k : ℕ) (h : Home) → slice_get homes k ≡ Some h → users_of (drop k homes) ≡ users_of (h ∷ []) ++ users_of (drop (suc k) homes)
users_at [] k h e = absurd (none_there h e)
users_at (x ∷ xs) zero h e = subst (λ (y : Home). users_of (x ∷ xs) ≡ users_of (y ∷ []) ++ users_of xs) (same_home x h e) (one_first (is_inbox x.folder) x.user (users_of xs))
users_at (x ∷ xs) (suc k) h e = users_at xs k h e

pub users_next : (k : ℕ) (homes : List Home) (all old new : List ℕ) (ports next : List ℕ) → k < length homes → old ++ imap_lines (users_of (drop k homes)) ports ≡ all
    → IfSome (slice_get homes k) (λ home. (users : List (List ℕ)) → new ++ imap_lines users next ≡ old ++ imap_lines (users_of (home ∷ []) ++ users) ports)
    → new ++ imap_lines (users_of (drop (k + 1) homes)) next ≡ all
users_next k homes all old new ports next under is line =
    let nobody : Home = record { user = []; folder = None } in
    let up : suc k ≡ k + 1 = omega arith in
    let there = slice_get-get_or homes k nobody under in
    subst (λ (n : ℕ). new ++ imap_lines (users_of (drop n homes)) next ≡ all) up
    (by_home _ there
    (subst (λ (o : Option Home). IfSome o (λ home. (users : List (List ℕ)) → new ++ imap_lines users next ≡ old ++ imap_lines (users_of (home ∷ []) ++ users) ports)) there line))
  where
    by_home : (h : Home) → slice_get homes k ≡ Some h → ((users : List (List ℕ)) → new ++ imap_lines users next ≡ old ++ imap_lines (users_of (h ∷ []) ++ users) ports)
        → new ++ imap_lines (users_of (drop (suc k) homes)) next ≡ all
    by_home h at line = line (users_of (drop (suc k) homes)) ∙ ap (λ (us : List (List ℕ)). old ++ imap_lines us ports) (sym (users_at homes k h at)) ∙ is

no_ports : (users : List (List ℕ)) → imap_lines users [] ≡ []
no_ports [] = refl
no_ports (u ∷ users) = refl

-- users for whom there is no port have no line
pub no_more : (o : Option Home) (out ports : List ℕ) → length ports ≡ 0 → IfSome o (λ home. (users : List (List ℕ)) → out ++ imap_lines users ports ≡ out ++ imap_lines (users_of (home ∷ []) ++ users) ports)
no_more o out (port ∷ ports) none = absurd (let z : ⊥ = omega (arith, none) in z)
no_more None out [] none = tt
no_more (Some home) out [] none = λ users. ap (λ (t : List ℕ). out ++ t) (no_ports users ∙ sym (no_ports (users_of (home ∷ []) ++ users)))

-- ---- ports

from_more : (first count : ℕ) → ports_from first (suc count) ≡ ports_from first count ++ (first + count) ∷ []
from_more first zero = ap (λ (n : ℕ). n ∷ []) (let e : first ≡ first + 0 = omega arith in e)
from_more first (suc count) =
    ap (λ (t : List ℕ). first ∷ t)
    (from_more (first + 1) count ∙ ap (λ (n : ℕ). ports_from (first + 1) count ++ n ∷ []) (let e : first + 1 + count ≡ first + suc count = omega arith in e))

length_more : (xs : List ℕ) (x : ℕ) → length (xs ++ x ∷ []) ≡ length xs + 1
length_more [] x = refl
length_more (y ∷ xs) x = (let e = length_more xs x in omega (arith, e))

pub ports_more : (first number given port : ℕ) (old new : List ℕ) → AreUserPorts first number old → (first ≢ 0 → given ≡ first + number) → (first ≡ 0 → given ≡ 0) → IsPortFor given port
    → new ≡ old ++ port ∷ [] → AreUserPorts first (number + 1) new
ports_more first number given port old new are follows left one is = record {
  same = λ some.
      let up : suc number ≡ number + 1 = omega arith in
      let here : port ≡ first + number = one.same (λ zero. let g = follows some in some (omega (arith, g, zero))) ∙ follows some in
      is ∙ ap (λ (xs : List ℕ). xs ++ port ∷ []) (are.same some) ∙ ap (λ (n : ℕ). ports_from first number ++ n ∷ []) here ∙ sym (from_more first number)
      ∙ ap (λ (n : ℕ). ports_from first n) up;
  each = λ none. ap (λ (xs : List ℕ). length xs) is ∙ length_more old port ∙ ap (λ (n : ℕ). n + 1) (are.each none);
  free = λ none.
      subst (λ (xs : List ℕ). All (IsFrom 1 65535) xs) (sym is)
      (All-append (IsFrom 1 65535) old (port ∷ []) (are.free none) (All-cons (IsFrom 1 65535) port [] (one.free (left none)) (All-nil (IsFrom 1 65535))));
}

pub no_users : (first : ℕ) → AreUserPorts first 0 []
no_users first = record { same = λ some. refl; each = λ none. refl; free = λ none. All-nil (IsFrom 1 65535) }

-- ---- what is said

pub announced : (c : Config) (given : Option ℕ) (u : Uidvalidity) (homes : List Home) (users lmtp : ℕ) (imap : List ℕ) (page : Option ℕ) (lines : List ℕ) → homes ≡ (directory_for c).homes
    → users ≡ length (users_of homes) → IsPortFor c.lmtp_port lmtp → AreUserPorts c.imap_port users imap → IsPageFor given page → lines ≡ announcement lmtp imap page homes u
    → IsAnnouncement c given u lines
announced c given u homes users lmtp imap page lines is count mail ports status are = record {
  lmtp = lmtp;
  imap = imap;
  page = page;
  mail = mail;
  users = subst (λ (hs : List Home). AreUserPorts c.imap_port (length (users_of hs)) imap) is (subst (λ (n : ℕ). AreUserPorts c.imap_port n imap) count ports);
  status = status;
  are = are ∙ ap (λ (hs : List Home). announcement lmtp imap page hs u) is;
}

-- some port is free in any case
some_mail : (given : ℕ) → (port : ℕ) × IsPortFor given port
some_mail zero = (1, record { same = λ some. absurd (some refl); free = λ none. (lit≤ tt, lit≤ tt) })
some_mail (suc n) = (suc n, record { same = λ some. refl; free = λ none. absurd (let z : ⊥ = omega (arith, none) in z) })

some_page : (given : Option ℕ) → (page : Option ℕ) × IsPageFor given page
some_page None = (None, tt)
some_page (Some given) = (let one = some_mail given in (Some one.0, one.1))

ones : (n : ℕ) → All (IsFrom 1 65535) (replicate n 1)
ones zero = All-nil (IsFrom 1 65535)
ones (suc n) = All-cons (IsFrom 1 65535) 1 (replicate n 1) (lit≤ tt, lit≤ tt) (ones n)

many : (n : ℕ) → length {A = ℕ} (replicate n 1) ≡ n
many zero = refl
many (suc n) = ap suc (many n)

some_ports : (given users : ℕ) → (ports : List ℕ) × AreUserPorts given users ports
some_ports zero users = (replicate users 1, record { same = λ some. absurd (some refl); each = λ none. many users; free = λ none. ones users })
some_ports (suc n) users = (ports_from (suc n) users, record { same = λ some. refl; each = λ none. absurd (let z : ⊥ = omega (arith, none) in z); free = λ none. absurd (let z : ⊥ = omega (arith, none) in z) })

nothing : (taken : Option (List ℕ)) → Appends taken taken []
nothing None = tt
nothing (Some xs) = at_end xs where
  at_end : (xs : List ℕ) → xs ≡ xs ++ []
  at_end [] = refl
  at_end (x ∷ xs) = ap (λ (t : List ℕ). x ∷ t) (at_end xs)

pub nothing_said : (c : Config) (given : Option ℕ) (u : Uidvalidity) (taken : Option (List ℕ)) → HasBegun c given u taken taken
nothing_said c given u taken =
    let homes = (directory_for c).homes in
    let mail = some_mail c.lmtp_port in
    let users = some_ports c.imap_port (length (users_of homes)) in
    let page = some_page given in
    record {
      lines = announcement mail.0 users.0 page.0 homes u;
      announced = record { lmtp = mail.0; imap = users.0; page = page.0; mail = mail.1; users = users.1; status = page.1; are = refl };
      count = 0;
      written = nothing taken;
    }

-- a page has the port that is given for it, and none where none is
page_given : (given page : Option ℕ) → ((port : ℕ) → given ≡ Some port → port ≢ 0) → IsPageFor given page → page ≡ given
page_given None None some is = refl
page_given None (Some port) some is = absurd is
page_given (Some given) None some is = absurd is
page_given (Some given) (Some port) some is = ap (λ (n : ℕ). Some n) (is.same (some given refl))

-- where both ports are given, and that of the page if there is one, the lines are these
pub given_lines : (c : Config) (given : Option ℕ) (u : Uidvalidity) (lines : List ℕ) → c.lmtp_port ≢ 0 → c.imap_port ≢ 0 → ((port : ℕ) → given ≡ Some port → port ≢ 0) → IsAnnouncement c given u lines
    → let homes = (directory_for c).homes in lines ≡ announcement c.lmtp_port (ports_from c.imap_port (length (users_of homes))) given homes u
given_lines c given u lines mail users some is =
    is.are ∙ ap (λ (n : ℕ). announcement n is.imap is.page (directory_for c).homes u) (is.mail.same mail)
    ∙ ap (λ (ps : List ℕ). announcement c.lmtp_port ps is.page (directory_for c).homes u) (is.users.same users)
    ∙ ap (λ (o : Option ℕ). announcement c.lmtp_port (ports_from c.imap_port (length (users_of (directory_for c).homes))) o (directory_for c).homes u) (page_given given is.page some is.status)
