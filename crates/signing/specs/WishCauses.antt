-- Why wishes aren't met, in the order in which they are judged: wish by wish, and of one wish the
-- causes in their order.
use Rattle.std.specs.Prelude.{◌≡◌, ◌⊎◌, ℕ, ◌+◌, ◌*◌, IsTrue, IsFalse, Some, None, List, [], ◌∷◌, slice_get, IsSomeAnd}
use Rattle.std.specs.List.{list_all}
use Rattle.byte_grammar.specs.Causes.{IsFirst}
use Rattle.sfv_text.specs.declared.pair.Pair.{Pair}
use Rattle.sfv_text.specs.declared.value.Item.{Item}
use Rattle.sfv_text.specs.declared.value.InnerList.{InnerList}
use Rattle.sfv_text.specs.declared.value.Member.{Member}
use Rattle.sfv_text.specs.declared.value.Member.TheVariants.{Item as ItemMember, InnerList as InnerMember}
use Rattle.msg_body.specs.Messages.{Message}
use Rattle.component_ids.specs.Causes.{IsIdFault}
use Rattle.component_ids.specs.Table.{is_listed}
use Rattle.settings.specs.Configuration.{Configuration}
use Rattle.settings.specs.declared.sign_conf.SignConf.{SignConf}
use Rattle.signatures.specs.Algorithms.{supported_algorithm, refused_algorithms}
use Rattle.signatures.specs.Signatures.{HasField, HasDict}
use Rattle.signing.specs.Wishes.{wish_name, can_be_met, components_in, wished_alg, wished_key}
use Rattle.signing.specs.declared.fault.WantFault.{WantFault}
use Rattle.signing.specs.declared.fault.WantFault.TheVariants.{Memory, Absent, Malformed, NotInnerList, Ids, Parameter, AlgRefused, AlgUnknown, KeyUnknown}

-- the fact holds of the field's member at the index
abbrev pub OfWish : Message → ℕ → (Member → Type 0) → Type 0
OfWish message index Fact =
    (dict : List (Pair Member)) × HasDict message wish_name dict
    × IsSomeAnd (slice_get dict index) (λ wish. Fact wish.value)

-- the member at the index is an Inner List, and the fact holds of what is configured and of it
abbrev pub OfList : Configuration → Message → ℕ → (SignConf → InnerList → Type 0) → Type 0
OfList conf message index Fact =
    (sign : SignConf) × (conf.sign ≡ Some sign) × OfWish message index (λ member.
    (list : InnerList) × (member ≡ InnerMember list) × Fact sign list)

-- the fact for which the fault is answered; being out of memory is none of them
abbrev pub IsWantCause : Configuration → Message → WantFault → Type 0
IsWantCause conf message Absent =
    (¬ HasField message wish_name) ⊎ HasDict message wish_name []
IsWantCause conf message Malformed =
    HasField message wish_name × ((dict : List (Pair Member)) → ¬ HasDict message wish_name dict)
IsWantCause conf message (NotInnerList index) =
    OfWish message index (λ member. (item : Item) × (member ≡ ItemMember item))
IsWantCause conf message (Ids index fault) =
    OfList conf message index (λ sign list. IsIdFault (components_in list) fault)
IsWantCause conf message (Parameter index) =
    OfList conf message index (λ sign list.
    IsFalse (list_all (can_be_met sign.expires_after) list.params))
IsWantCause conf message (AlgRefused index) =
    OfList conf message index (λ sign list.
    IsSomeAnd (wished_alg list) (λ alg. IsTrue (is_listed refused_algorithms alg)))
IsWantCause conf message (AlgUnknown index) =
    OfList conf message index (λ sign list. IsSomeAnd (wished_alg list) (λ alg.
    IsFalse (is_listed (supported_algorithm ∷ refused_algorithms) alg)))
IsWantCause conf message (KeyUnknown index) =
    OfList conf message index (λ sign list. wished_key conf sign list ≡ None)
IsWantCause conf message Memory = ⊥

-- the order in which the causes are judged
abbrev pub want_order : WantFault → ℕ
want_order Memory = 0
want_order Absent = 2
want_order Malformed = 3
want_order (NotInnerList index) = 4 + 6 * index
want_order (Ids index fault) = 5 + 6 * index
want_order (Parameter index) = 6 + 6 * index
want_order (AlgRefused index) = 7 + 6 * index
want_order (AlgUnknown index) = 8 + 6 * index
want_order (KeyUnknown index) = 9 + 6 * index

-- the fault's cause is the first that holds
abbrev pub IsWantFault : Configuration → Message → WantFault → Type 0
IsWantFault conf message fault = IsFirst want_order (IsWantCause conf message) fault
