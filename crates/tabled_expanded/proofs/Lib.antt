mod Joining
mod Heading
mod OneMore
