-- What the delivery core tells of a mailbox's last changes is the window of the mailbox for which it stands.
use Rattle.std.proofs.Common.{◌≡◌, ℕ, ◌+◌, ◌<◌, List, [], ◌++◌, length, drop, get_or, sym, ap, ◌∙◌, subst, Some}
use Rattle.change_ring.specs.declared.change.Change.{Change}
use Rattle.mailbox.specs.declared.history.History.TheVariants.{Kept}
use Rattle.mailbox.specs.Mailbox.{Mailbox}
use Rattle.delivery_core.specs.DeliveryCore.{DeliveryCore}
use Rattle.envelope.specs.Names.{Directory, number_of}
use Rattle.house.specs.House.{House}
use Rattle.house.specs.Setup.{Setup}
use Rattle.house.specs.Scene.{Scene}
use Rattle.house.specs.Stands.{StandsFor}
use Rattle.house.specs.Window.{PrintsWindow, tail_text}

-- some mailbox
abbrev pub some_mail : Mailbox
some_mail = record {
  number = 0;
  uidvalidity = 0;
  first_uid = 0;
  limit = 0;
  messages = [];
  window = record { base = 0; changes = []; capacity = 0; max = 0 };
  history = Kept;
  accepted = [];
  cursors = record { number = 0; next = 0; slots = [] };
}

pub window_printed : (k : Setup) (s : Scene) (h : House) (core : DeliveryCore) (directory : Directory) (word : List ℕ) (m base : ℕ) (changes : List Change) (old new : List ℕ)
    → StandsFor k h s → h.core ≡ core → h.directory ≡ directory → number_of directory word ≡ Some m → m < length core.boxes
    → base ≡ (get_or core.boxes m some_mail).window.base → changes ≡ (get_or core.boxes m some_mail).window.changes
    → new ≡ old ++ tail_text word changes (base + length changes) → PrintsWindow k s word old new
window_printed k s h core directory word m base changes old new st same there named within b cs e =
    let at = st.core.boxes m some_mail (subst (λ (x : DeliveryCore). m < length x.boxes) (sym same) within) in
    let first : base ≡ (s.world.box m).base = b ∙ ap (λ (x : DeliveryCore). (get_or x.boxes m some_mail).window.base) (sym same) ∙ at.base in
    let is : changes ≡ (get_or h.core.boxes m some_mail).window.changes = cs ∙ ap (λ (x : DeliveryCore). (get_or x.boxes m some_mail).window.changes) (sym same) in
    let rest : changes ≡ drop (s.world.box m).base (s.world.box m).log = is ∙ sym at.log.window.rest ∙ ap (λ (n : ℕ). drop n (s.world.box m).log) at.base in
    let total : base + length changes ≡ length (s.world.box m).log = ap (λ (n : ℕ). n + length changes) (first ∙ sym at.base) ∙ ap (λ (x : List Change). (get_or h.core.boxes m some_mail).window.base + length x) is ∙ sym at.log.window.long in
    record {
      mailbox = m;
      named = ap (λ (d : Directory). number_of d word) (sym st.directory ∙ there) ∙ named;
      out = e ∙ ap (λ (x : List Change). old ++ tail_text word x (base + length changes)) rest ∙ ap (λ (n : ℕ). old ++ tail_text word (drop (s.world.box m).base (s.world.box m).log) n) total;
    }
