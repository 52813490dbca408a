-- What the parts of the code that read wishes answer. No public clause cites this module.
use Rattle.std.specs.Prelude.{◌≡◌, ◌<◌, ⊤, ℕ, IsTrue, IsFalse, Option, Some, None, IfSome, IsSomeAnd, List, ◌∷◌, length, take, slice_get, Result, Ok, Err, codes, if◌then◌else◌}
use Rattle.std.specs.List.{All, list_all}
use Rattle.std.specs.Str.{bytes_eq}
use Rattle.byte_grammar.specs.Causes.{IsFirst}
use Rattle.sfv_text.specs.declared.pair.Pair.{Pair}
use Rattle.sfv_text.specs.declared.value.BareItem.{BareItem}
use Rattle.sfv_text.specs.declared.value.Item.{Item}
use Rattle.sfv_text.specs.declared.value.InnerList.{InnerList}
use Rattle.sfv_text.specs.declared.value.Member.{Member}
use Rattle.sfv_text.specs.declared.value.Member.TheVariants.{Item as ItemMember, InnerList as InnerMember}
use Rattle.msg_body.specs.Messages.{Message}
use Rattle.component_ids.specs.Causes.{IsIdFault}
use Rattle.component_ids.specs.SignatureParams.{IsParamsOf}
use Rattle.component_ids.specs.Table.{is_listed}
use Rattle.component_ids.specs.declared.id.ComponentId.{ComponentId}
use Rattle.component_ids.specs.declared.fault.IdFault.{IdFault}
use Rattle.component_ids.specs.declared.fault.IdFault.TheVariants as id
use Rattle.settings.specs.Configuration.{Configuration}
use Rattle.settings.specs.Covered.{params_of}
use Rattle.settings.specs.Keys.{is_keyid}
use Rattle.settings.specs.declared.sign_conf.SignConf.{SignConf}
use Rattle.signatures.specs.Algorithms.{supported_algorithm, refused_algorithms}
use Rattle.signing.specs.Asked.{moment_item}
use Rattle.signing.specs.Specs.{IsValidSpec}
use Rattle.signing.specs.Wishes.{expires_item, can_be_met, components_in, wished_alg, wished_keyid, wished_key, MeetsWish, MeetWishes, AreWished}
use Rattle.signing.specs.WishCauses.{IsWantCause, IsWantFault}
use Rattle.signing.specs.declared.fault.WantFault.{WantFault}
use Rattle.signing.specs.declared.fault.WantFault.TheVariants as want
use Rattle.signing.specs.declared.spec.SignSpec.{SignSpec}
use Rattle.signing.specs.declared.wish.WishFault.{WishFault}
use Rattle.signing.specs.declared.wish.WishFault.TheVariants.{Memory, NotInnerList, Ids, Parameter, AlgRefused, AlgUnknown, KeyUnknown}

-- the parameter with the moment of `expires`
abbrev pub expires_filled : ℕ → Option ℕ → Pair BareItem → Pair BareItem
expires_filled now after param =
    if bytes_eq param.key (codes "expires")
    then record { key = param.key; value = expires_item now after param.value }
    else param

-- the parameter with the moment of `created`
abbrev pub created_filled : ℕ → Pair BareItem → Pair BareItem
created_filled now param =
    if bytes_eq param.key (codes "created")
    then record { key = param.key; value = moment_item now }
    else param

-- the fault of a wish whose components aren't read
abbrev pub fault_of_ids : IdFault → WishFault
fault_of_ids id.Memory = Memory
fault_of_ids id.TooMany = Ids id.TooMany
fault_of_ids (id.BadComponent index reason) = Ids (id.BadComponent index reason)
fault_of_ids (id.Repeated index) = Ids (id.Repeated index)
fault_of_ids (id.BadParameter key) = Ids (id.BadParameter key)

-- the components of a list, or the fault of its items
abbrev pub ExplainsComponents : InnerList → Result (List ComponentId) WishFault → Type 0
ExplainsComponents list (Ok ids) = IsParamsOf (components_in list) (params_of ids)
ExplainsComponents list (Err Memory) = ⊤
ExplainsComponents list (Err (Ids fault)) = IsIdFault (components_in list) fault
ExplainsComponents list (Err fault) = ⊥

-- of the algorithm that is wished
abbrev pub ExplainsAlgorithm : Option (List ℕ) → Result Unit WishFault → Type 0
ExplainsAlgorithm alg (Ok done) = IfSome alg (λ name. name ≡ supported_algorithm)
ExplainsAlgorithm alg (Err AlgRefused) =
    IsSomeAnd alg (λ name. IsTrue (is_listed refused_algorithms name))
ExplainsAlgorithm alg (Err AlgUnknown) = IsSomeAnd alg (λ name.
    IsFalse (is_listed (supported_algorithm ∷ refused_algorithms) name))
ExplainsAlgorithm alg (Err fault) = ⊥

-- the fault of the wish at the index
abbrev pub fault_at : ℕ → WishFault → WantFault
fault_at index Memory = want.Memory
fault_at index NotInnerList = want.NotInnerList index
fault_at index (Ids fault) = want.Ids index fault
fault_at index Parameter = want.Parameter index
fault_at index AlgRefused = want.AlgRefused index
fault_at index AlgUnknown = want.AlgUnknown index
fault_at index KeyUnknown = want.KeyUnknown index

-- the fact for which a wish isn't met
abbrev pub IsWishCause : Configuration → SignConf → Member → WishFault → Type 0
IsWishCause conf sign member NotInnerList = (item : Item) × (member ≡ ItemMember item)
IsWishCause conf sign member (Ids fault) =
    (list : InnerList) × (member ≡ InnerMember list) × IsIdFault (components_in list) fault
IsWishCause conf sign member Parameter =
    (list : InnerList) × (member ≡ InnerMember list)
    × IsFalse (list_all (can_be_met sign.expires_after) list.params)
IsWishCause conf sign member AlgRefused =
    (list : InnerList) × (member ≡ InnerMember list)
    × IsSomeAnd (wished_alg list) (λ alg. IsTrue (is_listed refused_algorithms alg))
IsWishCause conf sign member AlgUnknown =
    (list : InnerList) × (member ≡ InnerMember list)
    × IsSomeAnd (wished_alg list) (λ alg.
    IsFalse (is_listed (supported_algorithm ∷ refused_algorithms) alg))
IsWishCause conf sign member KeyUnknown =
    (list : InnerList) × (member ≡ InnerMember list) × (wished_key conf sign list ≡ None)
IsWishCause conf sign member Memory = ⊥

-- the order in which they are judged
abbrev pub wish_order : WishFault → ℕ
wish_order Memory = 6
wish_order NotInnerList = 0
wish_order (Ids fault) = 1
wish_order Parameter = 2
wish_order AlgRefused = 3
wish_order AlgUnknown = 4
wish_order KeyUnknown = 5

-- the causes of one wish, judged in their order
abbrev pub IsWishFault : Configuration → SignConf → Member → WishFault → Type 0
IsWishFault conf sign member fault = IsFirst wish_order (IsWishCause conf sign member) fault

-- the first cause; out of memory says nothing
abbrev pub ExplainsFault : Configuration → SignConf → Member → WishFault → Type 0
ExplainsFault conf sign member Memory = ⊤
ExplainsFault conf sign member fault = IsWishFault conf sign member fault

-- the key of a wish, against which there is no cause but its components
pub record IsKeyOfWish (conf : Configuration) (sign : SignConf) (list : InnerList)
    (key : List ℕ) : Type 0 where
  pub can : IsTrue (list_all (can_be_met sign.expires_after) list.params)
  pub alg : IfSome (wished_alg list) (λ alg. alg ≡ supported_algorithm)
  pub key_is : wished_key conf sign list ≡ Some key
  pub keyid : IsTrue (is_keyid (wished_keyid sign list))

-- the first cause against a wish, where there is none against its components
abbrev pub IsFaultOfParams : Configuration → SignConf → InnerList → WishFault → Type 0
IsFaultOfParams conf sign list fault =
    (ids : List ComponentId) → IsParamsOf (components_in list) (params_of ids)
    → ExplainsFault conf sign (InnerMember list) fault

-- what is wished and no cause against it, or the first cause
abbrev pub ExplainsWish : Configuration → SignConf → ℕ → Pair Member → Result SignSpec WishFault
    → Type 0
ExplainsWish conf sign now wish (Ok spec) =
    MeetsWish conf now wish spec × IsValidSpec spec
    × ((fault : WishFault) → ¬ IsWishCause conf sign wish.value fault)
ExplainsWish conf sign now wish (Err fault) = ExplainsFault conf sign wish.value fault

-- no cause is against the wish
abbrev pub HasNoCause : Configuration → SignConf → Pair Member → Type 0
HasNoCause conf sign wish = (fault : WishFault) → ¬ IsWishCause conf sign wish.value fault

-- no cause is against the wishes up to this count
abbrev pub HaveNoCause : Configuration → SignConf → List (Pair Member) → ℕ → Type 0
HaveNoCause conf sign wishes count =
    (index : ℕ) (wish : Pair Member) → index < count → slice_get wishes index ≡ Some wish
    → HasNoCause conf sign wish

-- the wishes up to this count are met, and there is no cause against them
pub record AreMet (conf : Configuration) (sign : SignConf) (now : ℕ)
    (wishes : List (Pair Member)) (count : ℕ) (specs : List SignSpec) : Type 0 where
  pub meet : MeetWishes conf now (take count wishes) specs
  pub valid : All IsValidSpec specs
  pub none : HaveNoCause conf sign wishes count

-- the first wish that isn't met, and its fault
abbrev pub IsFirstUnmet : Configuration → SignConf → List (Pair Member) → WantFault → Type 0
IsFirstUnmet conf sign wishes fault =
    (index : ℕ) × (cause : WishFault) × (fault ≡ fault_at index cause)
    × HaveNoCause conf sign wishes index
    × IsSomeAnd (slice_get wishes index) (λ wish. IsWishFault conf sign wish.value cause)

-- what the wishes ask for, or the fault of the first that isn't met
abbrev pub ExplainsWishes : Configuration → SignConf → ℕ → List (Pair Member)
    → Result (List SignSpec) WantFault → Type 0
ExplainsWishes conf sign now wishes (Ok specs) =
    AreMet conf sign now wishes (length wishes) specs
ExplainsWishes conf sign now wishes (Err want.Memory) = ⊤
ExplainsWishes conf sign now wishes (Err fault) = IsFirstUnmet conf sign wishes fault

-- what the message's field asks for and no cause against it, or the first cause
abbrev pub ExplainsWanted : Configuration → ℕ → Message → Result (List SignSpec) WantFault → Type 0
ExplainsWanted conf now message (Ok specs) =
    AreWished conf now message specs × All IsValidSpec specs
    × ((fault : WantFault) → ¬ IsWantCause conf message fault)
ExplainsWanted conf now message (Err want.Memory) = ⊤
ExplainsWanted conf now message (Err fault) = IsWantFault conf message fault
