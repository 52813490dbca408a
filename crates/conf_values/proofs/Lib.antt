mod ArrayLaws
mod StandardNames
