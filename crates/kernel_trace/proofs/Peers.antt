-- A write to one of the peers.
use Rattle.std.proofs.Common.{◌≡◌, ℕ, zero, suc, ◌-◌, ◌≤◌, ◌<◌, List, [], ◌∷◌, length, set, get_or, Option, Some, None, refl, ap, sym, ◌∙◌}
use Rattle.std.proofs.Common.{subst, arith}
use Rattle.std.specs.Prelude.{map, slice_get, unwrap_or, option_map, IfSome}
use Rattle.std.proofs.lemmas.Option.{slice_get-get_or}
use Rattle.kernel_trace.specs.Fields.{Becomes, inputs, sent_of, sents}
use Rattle.kernel_trace.specs.Traced.{nobody, numbered, sent_at, with_numbered}
use Rattle.kernel_trace.specs.declared.input.Input.{Input}
use Rattle.kernel_trace.specs.declared.peer.Peer.{Peer}
use Rattle.kernel_trace.proofs.Sessions.{numbered-map, session_at-past}

map-set : {A B : Type 0} (f : A → B) (xs : List A) (i : ℕ) (x : A) → map f (set xs i x) ≡ set (map f xs) i (f x)
map-set f [] i x = refl
map-set f (y ∷ xs) zero x = refl
map-set f (y ∷ xs) (suc i) x = ap (λ ys. f y ∷ ys) (map-set f xs i x)

set-same : {A : Type 0} (xs : List A) (i : ℕ) (x : A) → slice_get xs i ≡ Some x → set xs i x ≡ xs
set-same [] i x is = refl
set-same (y ∷ xs) zero x is = let same : y ≡ x = cc is in ap (λ z. z ∷ xs) (sym same)
set-same (y ∷ xs) (suc i) x is = ap (λ ys. y ∷ ys) (set-same xs i x is)

-- what is there is written again
pub with-same : {A : Type 0} (xs : List A) (number : ℕ) (x : A) → numbered xs number ≡ Some x → with_numbered xs number x ≡ xs
with-same xs zero x is = refl
with-same xs (suc k) x is = set-same xs k x is

-- the peer of this number, and what a write in its place does
pub record AtPeer (peers : List Peer) (number : ℕ) (was : Peer) : Type 0 where
  pub peer : numbered peers number ≡ Some was
  pub sent : numbered (sents peers) number ≡ Some (sent_of was)
  pub input : numbered (inputs peers) number ≡ Some was.input
  pub sets : (p : Peer) → set peers (number - 1) p ≡ with_numbered peers number p
  pub sets_sent : (p : Peer) → sents (set peers (number - 1) p) ≡ with_numbered (sents peers) number (sent_of p)
  pub sets_input : (p : Peer) → inputs (set peers (number - 1) p) ≡ with_numbered (inputs peers) number p.input

pub at_peer : (peers : List Peer) (number : ℕ) (was : Peer) → 1 ≤ number → number ≤ length peers → was ≡ get_or peers (number - 1) was
    → AtPeer peers number was
at_peer peers zero was some within is = absurd (omega arith)
at_peer peers (suc k) was some within is =
    record {
      peer = here;
      sent = numbered-map sent_of peers (suc k) ∙ ap (option_map sent_of) here;
      input = numbered-map (λ (peer : Peer). peer.input) peers (suc k) ∙ ap (option_map (λ (peer : Peer). peer.input)) here;
      sets = λ p. ap (λ n. set peers n p) place;
      sets_sent = λ p. ap (λ n. sents (set peers n p)) place ∙ map-set sent_of peers k p;
      sets_input = λ p. ap (λ n. inputs (set peers n p)) place ∙ map-set (λ (peer : Peer). peer.input) peers k p;
    }
  where
    place : suc k - 1 ≡ k
    place = omega arith

    here : slice_get peers k ≡ Some was
    here = slice_get-get_or peers k was (omega arith) ∙ ap Some (sym (is ∙ ap (λ n. get_or peers n was) place))

pub sent_here : (peers : List Peer) (number : ℕ) (was : Peer) → AtPeer peers number was → sent_at (sents peers) number ≡ sent_of was
sent_here peers number was at = ap (λ o. unwrap_or o nobody) at.sent

-- a write that leaves what was sent, or the input
pub keeps_sent : (peers : List Peer) (number : ℕ) (was p : Peer) → AtPeer peers number was → sent_of p ≡ sent_of was
    → sents (set peers (number - 1) p) ≡ sents peers
keeps_sent peers number was p at same = at.sets_sent p
    ∙ (ap (with_numbered (sents peers) number) same ∙ with-same (sents peers) number (sent_of was) at.sent)

pub keeps_input : (peers : List Peer) (number : ℕ) (was p : Peer) → AtPeer peers number was → p.input ≡ was.input
    → inputs (set peers (number - 1) p) ≡ inputs peers
keeps_input peers number was p at same = at.sets_input p
    ∙ (ap (with_numbered (inputs peers) number) same ∙ with-same (inputs peers) number was.input at.input)

pub input_becomes : (peers : List Peer) (number : ℕ) (was p : Peer) (R : Input → Input → Type 0) → AtPeer peers number was
    → R was.input p.input → Becomes (inputs peers) (inputs (set peers (number - 1) p)) number R
input_becomes peers number was p R at r before is =
    let same : was.input ≡ before = cc (sym at.input ∙ is) in
    (p.input, at.sets_input p, subst (λ b. R b p.input) same r)

pub IfSome-map : {T : Type 0} (o : Option T) {P Q : T → Type 0} → ((x : T) → P x → Q x) → IfSome o P → IfSome o Q
IfSome-map None f h = tt
IfSome-map (Some x) f h = f x h

pub same-length : (peers : List Peer) → length (inputs peers) ≡ length peers
same-length [] = refl
same-length (peer ∷ peers) = ap (λ n. suc n) (same-length peers)

pub none_at_zero : (peers : List Peer) (number : ℕ) → number ≡ 0 → sent_at (sents peers) number ≡ nobody
none_at_zero peers number is = ap (sent_at (sents peers)) is

pub none_past : (peers : List Peer) (number : ℕ) → length peers < number → sent_at (sents peers) number ≡ nobody
none_past peers number lt = ap (λ o. unwrap_or o nobody) (session_at-past (sents peers) number (omega (arith, many peers)))
  where
    many : (ps : List Peer) → length (sents ps) ≡ length ps
    many [] = refl
    many (p ∷ ps) = ap (λ n. suc n) (many ps)
