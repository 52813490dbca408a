-- What the text of a message ends with. No public clause cites this module.
use Rattle.std.specs.Prelude.{◌≡◌, ⊤, ℕ, List, ◌++◌}
use Rattle.msg_head.specs.Trailers.{IsTrailer, trailer_text}
use Rattle.msg_body.specs.Bodies.{Body, plain, chunked}

-- the text ends with the trailer section of the body, where it has one
abbrev pub EndsWithTrailer : Body → List ℕ → Type 0
EndsWithTrailer (plain content) text = ⊤
EndsWithTrailer (chunked chunks trailers) text =
    IsTrailer trailers × ((before : List ℕ) × (text ≡ before ++ trailer_text trailers))
