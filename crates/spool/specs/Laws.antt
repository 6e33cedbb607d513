-- What holds for every spool: its host is valid, its changes are lawful, and they are few.
use Rattle.std.specs.Prelude.{ℕ, ◌+◌, ◌<◌, ◌^◌, [], ◌∷◌, ◌++◌, length, IsTrue}
use Rattle.std.proofs.Common.{arith}
use Rattle.std.proofs.Math.Logic.{∥∥₁_elim}
use Rattle.std.proofs.Props.{props}
use Rattle.model.specs.Lawful.{IsLawful, IsLawfulAfter, MayExpire, MayFile, MayFollow, MayMake}
use Rattle.model.specs.Names.{is_host}
use Rattle.model.specs.Spool.{Spool}
use Rattle.model.specs.Stream.{Octets}
use Rattle.model.specs.declared.change.Change.{Change}
use Rattle.model.specs.declared.change.Change.TheVariants.{Group, Article, Expire}
use Rattle.model.specs.declared.change.Expiry.{Expiry}
use Rattle.model.specs.declared.change.Filing.{Filing}
use Rattle.model.specs.declared.change.NewGroup.{NewGroup}
use Rattle.model.proofs.HoldsOne.{changes_few as fewer_than_inodes}
use Rattle.spool.specs.View.{SpoolView}

-- ---- being lawful is a proposition

make_prop : (S : Spool) (g : NewGroup) → IsProp (MayMake S g)
make_prop = Prim.hlevel props

file_prop : (host : Octets) (S : Spool) (f : Filing) → IsProp (MayFile host S f)
file_prop = Prim.hlevel props

expire_prop : (S : Spool) (e : Expiry) → IsProp (MayExpire S e)
expire_prop = Prim.hlevel props

follow_prop : (host : Octets) (S : Spool) (c : Change) → IsProp (MayFollow host S c)
follow_prop host S (Group g) = make_prop S g
follow_prop host S (Article f) = file_prop host S f
follow_prop host S (Expire e) = expire_prop S e

lawful_prop : (host : Octets) (before cs : Spool) → IsProp (IsLawfulAfter host before cs)
lawful_prop host before [] = Prim.hlevel props
lawful_prop host before (c ∷ cs) = λ p q i. (follow_prop host before c p.0 q.0 i, lawful_prop host (before ++ c ∷ []) cs p.1 q.1 i)

-- ---- the laws

name_prop : (host : Octets) → IsProp (IsTrue (is_host host))
name_prop = Prim.hlevel props

below_prop : (m n : ℕ) → IsProp (m < n)
below_prop = Prim.hlevel props

-- its host is valid
pub named_well : (s : SpoolView) → IsTrue (is_host s.host)
named_well s = ∥∥₁_elim s.sound (name_prop s.host) (λ is. is.named)

-- each change may follow the changes before it
pub changes_lawful : (s : SpoolView) → IsLawful s.host s.changes
changes_lawful s = ∥∥₁_elim s.sound (lawful_prop s.host [] s.changes) (λ is. is.held.lawful)

-- each serial fits into ten digits
pub changes_few : (s : SpoolView) → length s.changes + 1 < 10 ^ 10
changes_few s = ∥∥₁_elim s.sound (below_prop (length s.changes + 1) (10 ^ 10))
    (λ is. Prim.omega (arith, fewer_than_inodes s.host s.inodes s.blocks s.changes is.held, is.room.few))
