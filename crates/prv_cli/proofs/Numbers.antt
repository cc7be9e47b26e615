-- The numbers of faults are those of no other refusal.
use Rattle.std.proofs.Common.{◌≡◌, refl, Err}
use Rattle.prv_cli.specs.Refusals.{refusal_number}
use Rattle.prv_cli.specs.Answers.{UnlessRead, UnlessWrite}
use Rattle.prv_cli.specs.declared.refusal.Refusal.{Refusal}
use Rattle.prv_cli.specs.declared.refusal.Refusal.TheVariants as refusal

pub five-is-read : (why : Refusal) → refusal_number why ≡ 5 → why ≡ refusal.Read
five-is-read refusal.Read is = refl
five-is-read refusal.Write is = cc
five-is-read refusal.Memory is = cc
five-is-read refusal.Later is = cc
five-is-read (refusal.Usage word) is = cc
five-is-read (refusal.File who why) is = cc
five-is-read (refusal.Pair why) is = cc
five-is-read (refusal.Inputs given wanted) is = cc
five-is-read (refusal.Slice bound) is = cc

pub six-is-write : (why : Refusal) → refusal_number why ≡ 6 → why ≡ refusal.Write
six-is-write refusal.Read is = cc
six-is-write refusal.Write is = refl
six-is-write refusal.Memory is = cc
six-is-write refusal.Later is = cc
six-is-write (refusal.Usage word) is = cc
six-is-write (refusal.File who why) is = cc
six-is-write (refusal.Pair why) is = cc
six-is-write (refusal.Inputs given wanted) is = cc
six-is-write (refusal.Slice bound) is = cc

pub no-read : (A : Type 0) (why : Refusal) (P : Type 0) → (why ≡ refusal.Read → ⊥) → UnlessRead {A = A} (Err why) P → P
no-read A refusal.Read P never h = absurd (never refl)
no-read A refusal.Write P never h = h
no-read A refusal.Memory P never h = h
no-read A refusal.Later P never h = h
no-read A (refusal.Usage word) P never h = h
no-read A (refusal.File who why) P never h = h
no-read A (refusal.Pair why) P never h = h
no-read A (refusal.Inputs given wanted) P never h = h
no-read A (refusal.Slice bound) P never h = h

pub no-write : (A : Type 0) (why : Refusal) (P : Type 0) → (why ≡ refusal.Write → ⊥) → UnlessWrite {A = A} (Err why) P → P
no-write A refusal.Read P never h = h
no-write A refusal.Write P never h = absurd (never refl)
no-write A refusal.Memory P never h = h
no-write A refusal.Later P never h = h
no-write A (refusal.Usage word) P never h = h
no-write A (refusal.File who why) P never h = h
no-write A (refusal.Pair why) P never h = h
no-write A (refusal.Inputs given wanted) P never h = h
no-write A (refusal.Slice bound) P never h = h
